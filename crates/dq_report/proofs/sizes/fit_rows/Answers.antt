use Rattle.std.specs.List.{AllByRecursion}
use Rattle.dq_report.specs.Told.{FitsCell}
use Rattle.dq_base.proofs.Reached.{reached_item, reached_all}
use Rattle.dq_report.proofs.sizes.fit_rows.Goals as goal

pub loop-row-preserved : goal.loop-row-preserved
loop-row-preserved c = reached_item (AllByRecursion FitsCell) c.args.rows.now c.loop-row.row-index c.row-item.result c.loop-row-test.true c.loop-row.invariant c.row-item.is c.fit_row.ensures

pub returns : goal.returns
returns c = reached_all (AllByRecursion FitsCell) c.args.rows.now c.loop-row.row-index c.loop-row-test.false c.loop-row.invariant
