use Rattle.dq_report.specs.Told.{FitsResult}
use Rattle.dq_base.proofs.Reached.{reached_item, reached_all}
use Rattle.dq_report.proofs.sizes.fit_steps.Goals as goal

pub loop-done-preserved : goal.loop-done-preserved
loop-done-preserved c = reached_item FitsResult c.args.steps.now c.loop-done.done-index c.done-item.result c.loop-done-test.true c.loop-done.invariant c.done-item.is c.fit_step.ensures

pub returns : goal.returns
returns c = reached_all FitsResult c.args.steps.now c.loop-done.done-index c.loop-done-test.false c.loop-done.invariant
