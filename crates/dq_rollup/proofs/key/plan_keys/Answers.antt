use Rattle.std.proofs.Common.{subst}
use Rattle.dq_base.specs.Dims.{Dimension}
use Rattle.dq_rollup.specs.Keys.{IsMade}
use Rattle.dq_rollup.proofs.Lists.{paired_more}
use Rattle.dq_rollup.proofs.key.plan_keys.Goals as goal

pub loop-d-preserved : goal.loop-d-preserved
loop-d-preserved c =
    let P : Dimension → Type 0 = λ d. IsMade c.args.held.now d c.in-Some.m in
    paired_more (IsMade c.args.held.now) c.args.asked.now c.loop-d.d-index c.d-item.result c.loop-d.plan c.push.new.self c.in-Some.m
    c.loop-d-test.true c.loop-d.invariant c.in_ok-push-in-Some.ensures.ok (subst P c.d-item.is c.in-Some.ensures)
