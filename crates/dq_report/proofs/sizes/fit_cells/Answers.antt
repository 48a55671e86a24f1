use Rattle.dq_report.specs.Told.{FitsCell}
use Rattle.dq_base.proofs.Reached.{reached_item, reached_all}
use Rattle.dq_report.proofs.sizes.fit_cells.Goals as goal

pub loop-cell-preserved : goal.loop-cell-preserved
loop-cell-preserved c = reached_item FitsCell c.args.cells.now c.loop-cell.cell-index c.cell-item.result c.loop-cell-test.true c.loop-cell.invariant c.cell-item.is c.fit_cell.ensures

pub returns : goal.returns
returns c = reached_all FitsCell c.args.cells.now c.loop-cell.cell-index c.loop-cell-test.false c.loop-cell.invariant
