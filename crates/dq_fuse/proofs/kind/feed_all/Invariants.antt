use Rattle.std.proofs.Common.{◌≡◌, ◌≤◌, length, take}
use Rattle.std.specs.List.{flat_map, fold}
use Rattle.dq_fuse.proofs.kind.feed_all.Given as goal

abbrev pub invariant-loop-i : goal.invariant-loop-i
invariant-loop-i g l = (l.i ≤ length l.items) × (l.state ≡ fold g.H.Hasher.write l.initial.state (flat_map g.T.Feeds.input (take l.i l.items)))
