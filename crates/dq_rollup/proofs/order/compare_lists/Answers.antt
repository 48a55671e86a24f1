use Rattle.std.proofs.Common.{arith, sym, ◌∙◌, drop, length, length-drop, ◌<◌}
use Rattle.std.proofs.lemmas.List.{drop_all}
use Rattle.dq_base.specs.Orders.{cell_cmp}
use Rattle.dq_fold.proofs.Sizes.{ended_first}
use Rattle.dq_rollup.proofs.order.compare_lists.Goals as goal

pub returns-then-a-b : goal.returns-then-a-b
returns-then-a-b c =
    let more : 0 < length (drop c.loop-i.i c.args.b.now) = omega (arith, length-drop c.loop-i.i c.args.b.now, c.if-a-b.true, c.loop-i.auto.i-end) in
    sym (ended_first cell_cmp _ _ (drop_all c.loop-i.i c.args.a.now c.loop-i-test.false) more) ∙ c.loop-i.invariant.0
