use Rattle.dq_report.specs.Told.{FitsZone}
use Rattle.dq_base.proofs.Reached.{reached_item, reached_all}
use Rattle.dq_report.proofs.sizes.fit_outcomes.Goals as goal

pub loop-outcome-preserved : goal.loop-outcome-preserved
loop-outcome-preserved c = reached_item FitsZone c.args.outcomes.now c.loop-outcome.outcome-index c.outcome-item.result c.loop-outcome-test.true c.loop-outcome.invariant c.outcome-item.is c.fit_zone.ensures

pub returns : goal.returns
returns c = reached_all FitsZone c.args.outcomes.now c.loop-outcome.outcome-index c.loop-outcome-test.false c.loop-outcome.invariant
