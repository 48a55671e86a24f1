use Rattle.std.proofs.Common.{◌≡◌, take}
use Rattle.dq_rollup.proofs.copies.copy_table.Given as goal

abbrev pub invariant-loop-row : goal.invariant-loop-row
invariant-loop-row l = (l.copy ≡ take l.row-index l.row-items) × (l.row-items ≡ l.table)
