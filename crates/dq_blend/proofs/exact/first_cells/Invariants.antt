use Rattle.std.proofs.Common.{◌≡◌, min, length, take}
use Rattle.dq_blend.proofs.exact.first_cells.Given as goal

abbrev pub invariant-loop-place : goal.invariant-loop-place
invariant-loop-place l = (l.key ≡ take l.place l.row) × (l.place-end ≡ min l.count (length l.row))
