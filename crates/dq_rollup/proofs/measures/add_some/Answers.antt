use Rattle.std.proofs.Common.{ap, sym, ◌∙◌}
use Rattle.std.specs.BTreeSet.{keys}
use Rattle.dq_base.specs.Orders.{value_cmp}
use Rattle.dq_fold.proofs.Inserts.{insert_is_with}
use Rattle.dq_rollup.specs.Derived.{with_some}
use Rattle.dq_rollup.proofs.measures.add_some.Goals as goal

pub returns-in_ok-insert-in-Some : goal.returns-in_ok-insert-in-Some
returns-in_ok-insert-in-Some c = c.in_ok-insert-in-Some.ensures.keys ∙ insert_is_with value_cmp c.in-Some.v (keys c.args.set.now) ∙ ap (λ v. with_some v (keys c.args.set.now)) (sym c.in-Some.is)
