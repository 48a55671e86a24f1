use Rattle.dq_base.specs.Orders.{value_cmp}
use Rattle.dq_base.specs.ValueOrder.{value_cmp_total}
use Rattle.dq_cover.proofs.Found.{sorted_tested}
use Rattle.dq_cover.proofs.testing.ascends.Goals as goal

pub returns : goal.returns
returns c = sorted_tested value_cmp value_cmp_total c.args.list.now c.is_sorted.result c.is_sorted.ensures.cases
