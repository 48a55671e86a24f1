use Rattle.std.proofs.Common.{◌≡◌, ◌++◌, map, take, drop, length}
use Rattle.dq_fold.specs.Tallies.{added}
use Rattle.dq_fold.proofs.groups.add_to.Given as goal

abbrev pub invariant-loop-place : goal.invariant-loop-place
invariant-loop-place l = (l.tallies ≡ map (added l.row) (take l.place l.fn.tallies) ++ drop l.place l.fn.tallies) × (l.place-end ≡ length l.fn.tallies)
