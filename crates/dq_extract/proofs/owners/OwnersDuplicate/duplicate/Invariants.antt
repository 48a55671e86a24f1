use Rattle.std.proofs.Common.{◌≡◌, take}
use Rattle.dq_extract.proofs.owners.OwnersDuplicate.duplicate.Given as goal

abbrev pub invariant-loop-place : goal.invariant-loop-place
invariant-loop-place g l = l.list ≡ take l.place l.self
