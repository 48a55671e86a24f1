use Rattle.std.proofs.Common.{◌≡◌, map, take}
use Rattle.indexmap.specs.IndexSet.{keys}
use Rattle.dq_fuse.specs.declared.union.Shown.{Shown}
use Rattle.dq_fuse.proofs.union.list_of.Given as goal

abbrev pub invariant-loop-shown : goal.invariant-loop-shown
invariant-loop-shown l = (l.list ≡ map (λ (s : Shown). s.0) (take l.shown-index l.shown-items)) × (l.shown-items ≡ keys l.seen)
