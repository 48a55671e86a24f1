use Rattle.dq_base.proofs.SetLaws.{Ascends}
use Rattle.dq_base.specs.Orders.{value_cmp}
use Rattle.dq_fuse_tests.proofs.tests.years.Given as goal

abbrev pub invariant-loop-year : goal.invariant-loop-year
invariant-loop-year l = Ascends value_cmp l.list
