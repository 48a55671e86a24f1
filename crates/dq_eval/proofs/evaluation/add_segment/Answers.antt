use Rattle.std.proofs.Common.{arith, ap, sym, ◌∙◌}
use Rattle.dq_eval.proofs.More.{row_within, segment_added}
use Rattle.dq_eval.proofs.evaluation.add_segment.Goals as goal

pub add-requires-clause-room : goal.add-requires-clause-room
add-requires-clause-room c =
    let within = row_within c.args.segments.now c.args.place c.loop-row.row-index _ c.rows-row-items.result.now c.loop-row.fold c.args.fold.now.key
    (sym c.in-Some.ensures) (c.rows-row-items.ensures ∙ ap (λ v. v.rows) c.deref.ensures) c.loop-row-test.true c.loop-row.invariant in
    let few = c.requires.few in
    omega (arith, within, few)

pub returns : goal.returns
returns c =
    segment_added c.args.segments.now c.args.place c.loop-row.row-index _ c.rows-row-items.result.now c.loop-row.fold c.args.fold.now.key
    (sym c.in-Some.ensures) (c.rows-row-items.ensures ∙ ap (λ v. v.rows) c.deref.ensures) c.loop-row-test.false c.loop-row.invariant
