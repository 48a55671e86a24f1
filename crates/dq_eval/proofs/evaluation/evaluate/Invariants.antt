use Rattle.std.proofs.Common.{◌≡◌, take}
use Rattle.dq_extract.specs.Segments.{rows_in}
use Rattle.dq_fold.specs.Folding.{folded}
use Rattle.dq_eval.proofs.evaluation.evaluate.Given as goal

abbrev pub invariant-loop-place : goal.invariant-loop-place
invariant-loop-place l = l.fold ≡ folded l.key (rows_in (take l.place l.segments))
