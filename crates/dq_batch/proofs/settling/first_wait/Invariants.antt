use Rattle.std.proofs.Common.{◌≡◌, true, take}
use Rattle.dq_batch.specs.Settling.{none_waits}
use Rattle.dq_batch.proofs.settling.first_wait.Given as goal

abbrev pub invariant-loop-place : goal.invariant-loop-place
invariant-loop-place l = none_waits (take l.place l.fetches) ≡ true
