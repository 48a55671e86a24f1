use Rattle.std.proofs.Common.{◌≡◌, ◌++◌, map}
use Rattle.dq_fold.specs.Folding.{AllSmall, group_cells}
use Rattle.dq_fold.specs.Placed.{entries_at}
use Rattle.dq_fold.proofs.groups.rows_of.Given as goal

abbrev pub invariant-loop-key : goal.invariant-loop-key
invariant-loop-key l =
    (l.rows.items ++ map group_cells (entries_at l.slots l.key-iterator) ≡ map group_cells l.groups) × AllSmall (entries_at l.slots l.key-iterator)
