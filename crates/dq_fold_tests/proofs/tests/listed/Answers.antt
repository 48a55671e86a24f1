use Rattle.std.proofs.Common.{subst, sym}
use Rattle.dq_base.specs.Orders.{value_cmp}
use Rattle.dq_base.specs.ValueOrder.{value_cmp_total}
use Rattle.dq_base.proofs.SetLaws.{Ascends, ascends_with, set_of_fixed}
use Rattle.dq_fold_tests.proofs.tests.listed.Goals as goal

pub loop-region-preserved : goal.loop-region-preserved
loop-region-preserved c = subst (Ascends value_cmp) (sym c.in_ok-put.ensures.ok) (ascends_with value_cmp value_cmp_total c.in_ok-region_of.field-0 c.loop-region.list c.loop-region.invariant)

pub returns : goal.returns
returns c = set_of_fixed value_cmp value_cmp_total c.loop-region.list c.loop-region.invariant
