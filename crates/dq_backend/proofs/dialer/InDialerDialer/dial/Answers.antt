use Rattle.std.proofs.Common.{◌≡◌, ◌+◌, ◌≤◌, true, false, ap, sym, ◌∙◌, arith}
use Rattle.std.proofs.lemmas.Bool.Decides.{nat_tests}
use Rattle.dq_backend.specs.Dialled.{is_item}
use Rattle.dq_backend.proofs.Counted.{items_few, no_more, one_more, risen}
use Rattle.dq_backend.proofs.dialer.InDialerDialer.dial.Goals as goal

pub overflow_add-self-then-has_item : goal.overflow_add-self-then-has_item
overflow_add-self-then-has_item c =
    let few : c.self.inside.faults ≤ c.self.inside.dials = rw c.self.invariant.0 (items_few c.self.inside.plan.dials c.self.inside.dials) in
    grind (arith, nat_tests, few, c.if-self.false, c.self.ranges)

pub invariant_of-self : goal.invariant_of-self
invariant_of-self c =
    let item : is_item c.self.inside.plan.dials (c.self.inside.dials + 1) ≡ true = sym c.has_item.ensures ∙ c.if-has_item.true in
    (ap (λ n. n + 1) c.self.invariant.0 ∙ sym (one_more c.self.inside.plan.dials c.self.inside.dials item), omega (arith, c.self.invariant.1))

pub returns-then-has_item-clause-cause : goal.returns-then-has_item-clause-cause
returns-then-has_item-clause-cause c =
    let item : is_item c.self.inside.plan.dials (c.self.inside.dials + 1) ≡ true = sym c.has_item.ensures ∙ c.if-has_item.true in
    rw (← c.self.view_is) (risen _ _ (one_more c.self.inside.plan.dials c.self.inside.dials item))

pub invariant_of-self-2 : goal.invariant_of-self-2
invariant_of-self-2 c =
    let none : is_item c.self.inside.plan.dials (c.self.inside.dials + 1) ≡ false = sym c.has_item.ensures ∙ c.if-has_item.false in
    (c.self.invariant.0 ∙ sym (no_more c.self.inside.plan.dials c.self.inside.dials none), omega (arith, c.self.invariant.1))

pub returns-clause-cause : goal.returns-clause-cause
returns-clause-cause c =
    let none : is_item c.self.inside.plan.dials (c.self.inside.dials + 1) ≡ false = sym c.has_item.ensures ∙ c.if-has_item.false in
    rw (← c.self.view_is) (omega (arith, no_more c.self.inside.plan.dials c.self.inside.dials none))
