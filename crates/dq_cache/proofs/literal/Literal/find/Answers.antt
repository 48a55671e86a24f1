use Rattle.std.proofs.Common.{sym, None, Some, ◌≡◌, eqb, ap, ◌∙◌, find}
use Rattle.std.specs.Map.{lookup, values_of}
use Rattle.dq_cache.specs.Entries.{has_body, BodiedOf}
use Rattle.dq_cache.specs.Stacks.{number_in}
use Rattle.dq_cache.proofs.Numbers.{Picked, picked, none_picked, to_front_picked, to_front_none, below_promoted}
use Rattle.dq_cache.proofs.Stacked.{promoted_stack}
use Rattle.dq_cache.proofs.literal.Literal.find.Goals as goal

pub returns-in_err-number-clause-found : goal.returns-in_err-number-clause-found
returns-in_err-number-clause-found c =
    let test = has_body c.args.stamp c.args.body.now in
    let es = c.self.inside.cache.entries in
    let none : number_in test es ≡ None = ap (λ b. number_in (has_body c.args.stamp b) es) (sym c.bytes.ensures) ∙ sym c.in_err-number.ensures in
    let f : find test (values_of es) ≡ None = (none_picked test es none).0 in
    rw (← c.self.view_is, c.from_residual.ensures, f) tt

pub returns-in_err-number-clause-moved : goal.returns-in_err-number-clause-moved
returns-in_err-number-clause-moved c =
    let test = has_body c.args.stamp c.args.body.now in
    let es = c.self.inside.cache.entries in
    let none : number_in test es ≡ None = ap (λ b. number_in (has_body c.args.stamp b) es) (sym c.bytes.ensures) ∙ sym c.in_err-number.ensures in
    rw (← c.self.view_is) (to_front_none test es none)

pub invariant_of-self : goal.invariant_of-self
invariant_of-self c =
    let test = has_body c.args.stamp c.args.body.now in
    let es = c.self.inside.cache.entries in
    let number : number_in test es ≡ Some c.in_ok-number.number = ap (λ b. number_in (has_body c.args.stamp b) es) (sym c.bytes.ensures) ∙ sym c.in_ok-number.ensures in
    let p : Picked test c.in_ok-number.number es = picked test c.in_ok-number.number es c.len-distinct.ensures.valid.0 number in
    record {
      stack = promoted_stack (λ (b : BodiedOf). b.entry) (eqb c.in_ok-number.number) c.self.inside.total c.self.inside.cache c.promote.new.self c.self.invariant.stack c.promote.ensures.entries;
      below = rw c.promote.ensures.entries (below_promoted c.self.inside.next c.in_ok-number.number test es c.self.invariant.below number p);
    }

pub returns-clause-found : goal.returns-clause-found
returns-clause-found c =
    let test = has_body c.args.stamp c.args.body.now in
    let es = c.self.inside.cache.entries in
    let number : number_in test es ≡ Some c.in_ok-number.number = ap (λ b. number_in (has_body c.args.stamp b) es) (sym c.bytes.ensures) ∙ sym c.in_ok-number.ensures in
    let p : Picked test c.in_ok-number.number es = picked test c.in_ok-number.number es c.len-distinct.ensures.valid.0 number in
    let f : find test (values_of es) ≡ lookup (eqb c.in_ok-number.number) es = p.first ∙ sym p.value in
    rw (← c.self.view_is, f) c.found_at-found.ensures

pub returns-clause-moved : goal.returns-clause-moved
returns-clause-moved c =
    let test = has_body c.args.stamp c.args.body.now in
    let es = c.self.inside.cache.entries in
    let number : number_in test es ≡ Some c.in_ok-number.number = ap (λ b. number_in (has_body c.args.stamp b) es) (sym c.bytes.ensures) ∙ sym c.in_ok-number.ensures in
    let p : Picked test c.in_ok-number.number es = picked test c.in_ok-number.number es c.len-distinct.ensures.valid.0 number in
    rw (← c.self.view_is, c.promote.ensures.entries) (to_front_picked test c.in_ok-number.number es p)
