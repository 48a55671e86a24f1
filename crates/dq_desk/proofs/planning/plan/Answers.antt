use Rattle.std.proofs.Common.{◌≡◌, ◌<◌, ◌∙◌, ap, sym, arith, length, map}
use Rattle.std.specs.Arc.{arc_value}
use Rattle.std.specs.Prelude.{slice_get}
use Rattle.dq_base.specs.declared.query.Query.{Query}
use Rattle.dq_desk.specs.Plans.{planned, stamp_of}
use Rattle.dq_text.specs.Statements.{body}
use Rattle.dq_desk.proofs.Growing.{made_at, made_more}
use Rattle.dq_desk.proofs.planning.plan.Goals as goal

pub loop-place-preserved : goal.loop-place-preserved
loop-place-preserved c =
    let items = c.as_slice-q-items.result.now in
    let i = c.loop-place.place in
    let x = c.q-item.result in
    let lt : i < length items = omega arith in
    let q : c.query.result.now ≡ arc_value x = c.query.ensures.same ∙ c.deref.ensures in
    let texts : c.args.texts.now ≡ map body (map arc_value items) = c.requires ∙ ap (map body) (sym c.loop-place.invariant.items) in
    let text : c.text_at.result.now ≡ body (arc_value x) =
    made_at arc_value body items i x c.text_at.result.now lt c.q-item.is (ap (λ ts. slice_get ts i) (sym texts) ∙ c.text_at.ensures) in
    let stamp : c.stamp_at-stamp.result ≡ stamp_of c.args.stamps.now (arc_value x).source = c.stamp_at-stamp.ensures ∙ ap (λ (k : Query). stamp_of c.args.stamps.now k.source) q in
    let clever = c.args.clever.now.entries in
    let literal = c.args.literal.now.entries in
    let flown = c.args.flights.now.flights in
    let met : c.look.result ≡ planned clever literal flown (stamp_of c.args.stamps.now (arc_value x).source) (arc_value x) (body (arc_value x)) =
    c.look.ensures ∙ (λ j. planned clever literal flown (stamp j) (c.deref-in-loop-place.ensures j) (text j)) in
    record {
      plan = made_more arc_value (λ (q : Query). planned clever literal flown (stamp_of c.args.stamps.now q.source) q (body q)) items i x c.look.result c.loop-place.plan _ lt c.q-item.is
          c.loop-place.invariant.plan met c.in_ok-push.ensures.ok;
      items = c.loop-place.invariant.items;
    }
