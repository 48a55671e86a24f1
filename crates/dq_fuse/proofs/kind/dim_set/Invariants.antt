use Rattle.std.proofs.Common.{◌≡◌, take, map}
use Rattle.std.specs.BTreeSet.{keys}
use Rattle.dq_base.specs.Sets.{set_of}
use Rattle.dq_fuse.specs.Kinds.{pair_of, pair_cmp}
use Rattle.dq_fuse.proofs.kind.dim_set.Given as goal

abbrev pub invariant-loop-dim : goal.invariant-loop-dim
invariant-loop-dim l = keys l.set ≡ set_of pair_cmp (map pair_of (take l.dim-index l.dims))
