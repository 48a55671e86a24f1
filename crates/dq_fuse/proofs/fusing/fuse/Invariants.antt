use Rattle.std.proofs.Common.{◌≡◌, map}
use Rattle.dq_fuse.specs.Gathered.{group_of}
use Rattle.dq_fuse.proofs.fusing.fuse.Given as goal

abbrev pub invariant-loop-gathering : goal.invariant-loop-gathering
invariant-loop-gathering l = l.list ≡ map group_of l.yielded
