use Rattle.std.proofs.Common.{◌≡◌, drop, ◌≤◌, length}
use Rattle.std.specs.Cmp.Lexicographic.{slice_cmp}
use Rattle.dq_base.specs.Orders.{cell_cmp}
use Rattle.dq_rollup.proofs.order.compare_lists.Given as goal

abbrev pub invariant-loop-i : goal.invariant-loop-i
invariant-loop-i l = (slice_cmp cell_cmp (drop l.i l.a) (drop l.i l.b) ≡ slice_cmp cell_cmp l.a l.b) × (l.i ≤ length l.b)
