use Rattle.std.proofs.Common.{◌≡◌, fold, map, take}
use Rattle.std.specs.Arc.{arc_value}
use Rattle.indexmap.specs.IndexSet.{keys}
use Rattle.dq_base.specs.Batches.{with_measure}
use Rattle.dq_fuse.specs.declared.union.Shown.{Shown}
use Rattle.dq_fuse.proofs.union.insert_each.Given as goal

abbrev pub invariant-loop-owner : goal.invariant-loop-owner
invariant-loop-owner l = map (λ (s : Shown). s.0) (keys l.seen) ≡ fold (λ ms q. fold with_measure ms q.measures) (map (λ (s : Shown). s.0) (keys l.initial.seen)) (map arc_value (take l.owner-index l.queries))
