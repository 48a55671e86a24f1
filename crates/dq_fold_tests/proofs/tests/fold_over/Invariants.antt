use Rattle.std.proofs.Common.{◌≡◌, take}
use Rattle.dq_fold.specs.Folding.{folded}
use Rattle.dq_fold_tests.proofs.tests.fold_over.Given as goal

abbrev pub invariant-loop-row : goal.invariant-loop-row
invariant-loop-row l = l.fold ≡ folded l.key (take l.row-index l.rows)
