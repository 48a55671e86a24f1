use Rattle.std.proofs.Common.{length}
use Rattle.dq_parse.proofs.Rows.{Cells}
use Rattle.dq_parse.proofs.cells.read_cells.Given as goal

abbrev pub invariant-loop-alloc : goal.invariant-loop-alloc
invariant-loop-alloc l = Cells l.fn.left l.left l.cells

abbrev pub decreases-loop-alloc : goal.decreases-loop-alloc
decreases-loop-alloc l = length l.left
