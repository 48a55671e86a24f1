use Rattle.dq_base.specs.Orders.{value_cmp}
use Rattle.dq_base.proofs.SetLaws.{Ascends}
use Rattle.dq_fold_tests.proofs.tests.listed.Given as goal

-- the list ascends
abbrev pub invariant-loop-region : goal.invariant-loop-region
invariant-loop-region l = Ascends value_cmp l.list
