use Rattle.std.proofs.lemmas.Result.{err_from_is_err_and}
use Rattle.dq_reading.proofs.Readings.{passed_on}
use Rattle.dq_parse.proofs.Rows.{cell_first, cell_none, cell_next, cell_breaks, cell_last}
use Rattle.dq_parse.proofs.cells.read_cells.Goals as goal

pub returns-in_err-first : goal.returns-in_err-first
returns-in_err-first c = passed_on _ _ _ (err_from_is_err_and c.from_residual.result c.from_residual.ensures.1) c.in_err-first.ensures cell_none

pub loop-alloc-init : goal.loop-alloc-init
loop-alloc-init c = cell_first c.in_ok-first.ensures c.new-cells.ensures c.in_ok-push.ensures.ok

pub returns-in_err-cell : goal.returns-in_err-cell
returns-in_err-cell c = passed_on _ _ _ (err_from_is_err_and c.from_residual-in_err-cell.result c.from_residual-in_err-cell.ensures.1) c.in_err-cell.ensures (cell_breaks c.loop-alloc.invariant c.loop-alloc-test.ensures)

pub loop-alloc-preserved : goal.loop-alloc-preserved
loop-alloc-preserved c = cell_next c.loop-alloc.invariant c.loop-alloc-test.ensures c.in_ok-cell.ensures c.in_ok-push-2.ensures.ok

pub returns : goal.returns
returns c = cell_last c.loop-alloc.invariant c.loop-alloc-test.ensures
