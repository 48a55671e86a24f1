use Rattle.std.proofs.Common.{◌≡◌, ◌∙◌, ◌+◌, List, [], ◌∷◌, ◌++◌, true, ap, sym, subst, refl, arith, length, append_assoc}
use Rattle.std.specs.Arc.{arc_value}
use Rattle.std.specs.List.{list_all}
use Rattle.std.specs.Prelude.{nat_lt}
use Rattle.std.specs.Vec.Iter.{into_iter_items}
use Rattle.dq_base.specs.declared.query.Query.{Query}
use Rattle.dq_flight.specs.Flights.{FlightOf}
use Rattle.dq_text.specs.Sizes.{IsSizedQuery}
use Rattle.dq_desk.specs.Plans.{stamp_of, started_flight}
use Rattle.dq_desk.proofs.Flown.{above_more, each_read, started_as, started_more}
use Rattle.dq_desk.proofs.starting.start_all.Goals as goal

pub loop-key-preserved : goal.loop-key-preserved
loop-key-preserved c =
    let at = c.loop-key in
    let x = c.in-Some.key in
    let stamps = c.args.stamps.now in
    let lane = c.args.lane in
    let fs = at.flights.flights in
    let steps : into_iter_items at.key-iterator ≡ x ∷ into_iter_items c.next.new.self = c.in-Some.ensures.steps.0 in
    let fewer = ap length steps in
    let q : c.query.result.now ≡ arc_value x = c.query.ensures.same ∙ c.deref-in-loop-key.ensures in
    let stamp : c.stamp_at.result ≡ stamp_of stamps (arc_value x).source = c.stamp_at.ensures ∙ ap (λ (k : Query). stamp_of stamps k.source) q in
    let one : FlightOf = started_flight stamps lane at.number (arc_value x) in
    let more : c.start.new.self.flights ≡ fs ++ one ∷ [] =
    c.start.ensures.flights ∙ ap (λ (f : FlightOf). fs ++ f ∷ []) (started_as stamps lane at.number c.stamp_at.result (arc_value x) stamp) in
    let A : List FlightOf → Type 0 = λ gs. list_all (λ (f : FlightOf). nat_lt f.number (at.number + 1)) gs ≡ true in
    let S : Query → Type 0 = λ k. IsSizedQuery k in
    record {
      flights = started_more arc_value stamps lane at.number fs c.start.new.self.flights _ x (into_iter_items at.key-iterator) (into_iter_items c.next.new.self) steps at.invariant.flights more;
      items = append_assoc at.yielded (x ∷ []) _ ∙ rw (← steps) at.invariant.items;
      number = omega (arith, at.invariant.number, fewer);
      room = omega (arith, at.invariant.room, fewer, c.start.ensures.room);
      above = subst A (sym more) (above_more at.number fs one refl at.invariant.above);
      sized = each_read arc_value S at.yielded x at.invariant.sized (subst S c.deref.ensures c.is_sized_key.ensures);
      len = omega (arith, at.invariant.len, c.in-Some.ensures.steps.1, fewer);
    }
