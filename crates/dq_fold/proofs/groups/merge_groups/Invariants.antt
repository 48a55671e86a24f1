use Rattle.dq_fold.specs.Folding.{merged_groups}
use Rattle.dq_fold.proofs.Placed.{Merging}
use Rattle.dq_fold.proofs.groups.merge_groups.Given as goal

abbrev pub invariant-loop-key : goal.invariant-loop-key
invariant-loop-key l = Merging l.groups l.rest l.key-iterator (merged_groups l.fn.groups l.fn.others)
