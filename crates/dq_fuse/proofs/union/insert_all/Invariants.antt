use Rattle.std.proofs.Common.{◌≡◌, fold, map, take}
use Rattle.indexmap.specs.IndexSet.{keys}
use Rattle.dq_base.specs.Batches.{with_measure}
use Rattle.dq_fuse.specs.declared.union.Shown.{Shown}
use Rattle.dq_fuse.proofs.union.insert_all.Given as goal

abbrev pub invariant-loop-measure : goal.invariant-loop-measure
invariant-loop-measure l = map (λ (s : Shown). s.0) (keys l.seen) ≡ fold with_measure (map (λ (s : Shown). s.0) (keys l.initial.seen)) (take l.measure-index l.measures)
