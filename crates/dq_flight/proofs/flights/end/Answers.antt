use Rattle.std.proofs.Common.{◌≡◌, ap, ◌∙◌, sym, Some, position, arith, [], ◌∷◌}
use Rattle.dq_flight.specs.Flights.{FlightOf, is_numbered, ended}
use Rattle.dq_flight.specs.States.{course_of}
use Rattle.dq_flight.proofs.Made.{ended_out, ended_kept}
use Rattle.dq_flight.proofs.Replacing.{one_item, replaced_none, replaced_by, replaced_out}
use Rattle.dq_flight.proofs.flights.end.Goals as goal

pub returns-in_default-clause-items : goal.returns-in_default-clause-items
returns-in_default-clause-items c =
    let test = is_numbered c.args.number in
    replaced_none test (ended (course_of c.args.state)) c.args.flights.now.items (ap (position test) (sym c.as_slice.ensures.value) ∙ sym c.in_default.ensures)

pub returns-then-joiners-eq0-clause-items : goal.returns-then-joiners-eq0-clause-items
returns-then-joiners-eq0-clause-items c =
    let test = is_numbered c.args.number in
    let xs = c.args.flights.now.items in
    let f = c.index.result.now in
    let at : position test xs ≡ Some c.in-Some.place = ap (position test) (sym c.as_slice.ensures.value) ∙ sym c.in-Some.ensures in
    let zero : f.joiners ≡ 0 = omega (arith, c.joiners.ensures, c.if-joiners-eq0.true) in
    c.remove.ensures.items ∙ replaced_out test (ended (course_of c.args.state)) xs c.in-Some.place f at
    (ap (ended (course_of c.args.state)) (sym c.index.ensures) ∙ ended_out (course_of c.args.state) f zero)

pub returns-clause-items : goal.returns-clause-items
returns-clause-items c =
    let test = is_numbered c.args.number in
    let xs = c.args.flights.now.items in
    let f = c.index.result.now in
    let at : position test xs ≡ Some c.in-Some.place = ap (position test) (sym c.as_slice.ensures.value) ∙ sym c.in-Some.ensures in
    let g = c.index_mut.result.now in
    let same : f ≡ g = one_item test xs c.in-Some.place f g at c.index.ensures c.index_mut.ensures.value in
    let more : g.joiners ≡ 0 → ⊥ = λ e. c.if-joiners-eq0.false (c.joiners.ensures ∙ ap (λ (h : FlightOf). h.joiners) same ∙ e) in
    replaced_by test (ended (course_of c.args.state)) xs c.in-Some.place c.set_state.new.self g at
    (ap (ended (course_of c.args.state)) (sym c.index_mut.ensures.value) ∙ ended_kept (course_of c.args.state) g more ∙ ap (λ (h : FlightOf). h ∷ []) (sym c.set_state.ensures))
