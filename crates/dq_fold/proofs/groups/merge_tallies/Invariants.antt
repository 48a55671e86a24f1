use Rattle.std.proofs.Common.{◌≡◌, take}
use Rattle.dq_fold.specs.Tallies.{merged_all}
use Rattle.dq_fold.proofs.groups.merge_tallies.Given as goal

abbrev pub invariant-loop-place : goal.invariant-loop-place
invariant-loop-place l = (l.tallies ≡ merged_all l.fn.tallies (take l.place l.others)) × (l.other-items ≡ l.others)
