use Rattle.std.proofs.Common.{◌≡◌, ◌≤◌, length, take}
use Rattle.dq_base.specs.Answers.{key_of}
use Rattle.dq_fold.proofs.groups.fill.Given as goal

abbrev pub invariant-loop-place : goal.invariant-loop-place
invariant-loop-place l = (take l.place l.buffer ≡ key_of (take l.place l.dims) l.row) × (l.place ≤ length l.buffer)
