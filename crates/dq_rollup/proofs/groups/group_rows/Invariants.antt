use Rattle.std.proofs.Common.{◌≡◌}
use Rattle.dq_rollup.specs.Grouped.{groups_below}
use Rattle.dq_rollup.proofs.groups.group_rows.Given as goal

abbrev pub invariant-loop-place : goal.invariant-loop-place
invariant-loop-place l = (l.row-items ≡ l.held) × (l.groups.entries ≡ groups_below (record { made = l.made; filters = l.filters; places = l.spots }) l.held l.place)
