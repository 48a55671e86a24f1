use Rattle.dq_base.proofs.SetLaws.{ascends_with, set_of_fixed}
use Rattle.dq_base.specs.Orders.{value_cmp}
use Rattle.dq_base.specs.ValueOrder.{value_cmp_total}
use Rattle.dq_fuse_tests.proofs.tests.years.Goals as goal

pub loop-year-preserved : goal.loop-year-preserved
loop-year-preserved c = rw c.in_ok-put.ensures.ok (ascends_with value_cmp value_cmp_total _ c.loop-year.list c.loop-year.invariant)

pub returns : goal.returns
returns c = set_of_fixed value_cmp value_cmp_total c.loop-year.list c.loop-year.invariant
