use Rattle.std.proofs.Common.{sym, ◌∙◌, ap}
use Rattle.dq_base.specs.Orders.{value_cmp}
use Rattle.dq_base.specs.ValueOrder.{value_cmp_total}
use Rattle.dq_base.specs.Sets.{with}
use Rattle.dq_fold.proofs.Inserts.{ascends_from, insert_is_with, with_there}
use Rattle.dq_fold.proofs.seen.Seen.add.Goals as goal

pub returns-then-contains-clause-ok : goal.returns-then-contains-clause-ok
returns-then-contains-clause-ok c =
    rw (← c.self.view_is) (sym (with_there value_cmp value_cmp_total c.args.v.now c.self.inside.set.keys (ascends_from value_cmp c.self.inside.set.keys c.len-ordered.ensures.ordered) (sym c.contains.ensures ∙ c.if-contains.true)))

pub returns-clause-ok : goal.returns-clause-ok
returns-clause-ok c = rw (← c.self.view_is) (c.in_ok-insert.ensures.keys ∙ insert_is_with value_cmp c.in_ok-copy.copy c.self.inside.set.keys ∙ ap (λ v. with value_cmp v c.self.inside.set.keys) c.in_ok-copy.ensures)
