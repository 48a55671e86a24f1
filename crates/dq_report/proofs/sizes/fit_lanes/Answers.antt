use Rattle.dq_report.specs.Told.{FitsList, FitsResult}
use Rattle.dq_base.proofs.Reached.{reached_item, reached_all}
use Rattle.dq_report.proofs.sizes.fit_lanes.Goals as goal

pub loop-results-preserved : goal.loop-results-preserved
loop-results-preserved c = reached_item (FitsList FitsResult) c.args.lanes.now c.loop-results.results-index c.results-item.result c.loop-results-test.true c.loop-results.invariant c.results-item.is c.fit_lane.ensures

pub returns : goal.returns
returns c = reached_all (FitsList FitsResult) c.args.lanes.now c.loop-results.results-index c.loop-results-test.false c.loop-results.invariant
