use Rattle.std.proofs.Common.{◌≡◌, ◌++◌, map}
use Rattle.dq_rollup.specs.Derived.{derived_row, rows_at}
use Rattle.dq_rollup.proofs.groups.rows_from.Given as goal

abbrev pub invariant-loop-key : goal.invariant-loop-key
invariant-loop-key l = l.rows.items ++ map (λ e. derived_row l.sources (rows_at l.held e.1) e.0) l.key-iterator ≡ map (λ e. derived_row l.sources (rows_at l.held e.1) e.0) l.groups.entries
