use Rattle.std.proofs.Common.{◌≡◌, ◌++◌, take}
use Rattle.dq_extract.specs.Segments.{rows_in}
use Rattle.dq_fold.specs.Folding.{folded}
use Rattle.dq_eval.proofs.evaluation.add_segment.Given as goal

abbrev pub invariant-loop-row : goal.invariant-loop-row
invariant-loop-row l = l.fold ≡ folded l.initial.fold.key (rows_in (take l.place l.segments) ++ take l.row-index l.row-items)
