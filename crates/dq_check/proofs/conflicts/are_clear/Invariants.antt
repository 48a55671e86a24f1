use Rattle.std.proofs.Common.{◌≡◌, drop}
use Rattle.dq_check.specs.Forcing as forcing
use Rattle.dq_check.proofs.conflicts.are_clear.Given as goal

abbrev pub invariant-loop-place : goal.invariant-loop-place
invariant-loop-place l = forcing.are_clear l.forced l.dues l.forced ≡ forcing.are_clear l.forced (drop l.place l.dues) (drop l.place l.forced)
