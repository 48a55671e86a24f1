use Rattle.std.proofs.Common.{ap, ◌∙◌}
use Rattle.dq_base.specs.Orders.{value_cmp}
use Rattle.dq_base.specs.Sets.{has}
use Rattle.dq_base.specs.ValueOrder.{value_cmp_total}
use Rattle.dq_fold.proofs.Searched.{found_in_set}
use Rattle.dq_rollup.proofs.checks.has_like.Goals as goal

pub returns : goal.returns
returns c =
    let e = c.as_slice.ensures in
    c.is_ok.ensures.value
    ∙ found_in_set value_cmp value_cmp_total c.as_slice.result.now c.args.v.now c.binary_search.result (rw e c.requires) c.binary_search.ensures.bound c.binary_search.ensures.position
    ∙ ap (λ xs. has value_cmp xs c.args.v.now) e
