use Rattle.std.proofs.Common.{◌≡◌, take}
use Rattle.dq_rollup.proofs.copies.copy_row.Given as goal

abbrev pub invariant-loop-cell : goal.invariant-loop-cell
invariant-loop-cell l = (l.copy ≡ take l.cell-index l.cell-items) × (l.cell-items ≡ l.row)
