use Rattle.std.proofs.Common.{◌≡◌, drop}
use Rattle.dq_check.specs.Forcing as forcing
use Rattle.dq_check.proofs.tables.tables_equal.Given as goal

abbrev pub invariant-loop-place : goal.invariant-loop-place
invariant-loop-place l = forcing.tables_eq l.a l.b ≡ forcing.tables_eq (drop l.place l.a) (drop l.place l.b)
