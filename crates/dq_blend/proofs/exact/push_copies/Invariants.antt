use Rattle.std.proofs.Common.{◌≡◌, ◌++◌, take}
use Rattle.dq_blend.proofs.exact.push_copies.Given as goal

abbrev pub invariant-loop-cell : goal.invariant-loop-cell
invariant-loop-cell l = l.row ≡ l.fn.row ++ take l.cell-index l.cells
