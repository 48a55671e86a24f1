-- The tests of a canonical query are canonical.
use Rattle.std.proofs.Common.{◌≡◌, ℤ, Bool, true, false, List, [], ◌∷◌, map, refl, ap, subst, Option, Some, None}
use Rattle.std.specs.Prelude.{int_lt, if◌then◌else◌}
use Rattle.std.specs.List.{All}
use Rattle.std.proofs.lemmas.List.Elements.{All-cons, All-nil}
use Rattle.dq_base.specs.Canonical.{canonical_bounds, canonical_predicate, canonical_test, predicate_cmp, IsCanonical}
use Rattle.dq_base.specs.Orders.{value_cmp}
use Rattle.dq_base.specs.ValueOrder.{value_cmp_total}
use Rattle.dq_base.proofs.SetLaws.{Each, each_map, each_set_of, set_of_again}
use Rattle.dq_base.specs.declared.predicate.Test.{Test}
use Rattle.dq_base.specs.declared.predicate.Test.TheVariants.{Among, Except, Between}
use Rattle.dq_base.specs.declared.predicate.Predicate.{Predicate}
use Rattle.dq_base.specs.declared.query.Query.{Query}

bounds_chosen : (b : Bool) (low high : ℤ) → int_lt high low ≡ b → canonical_test (if b then Among [] else Between (Some low) (Some high)) ≡ (if b then Among [] else Between (Some low) (Some high))
bounds_chosen true low high e = refl
bounds_chosen false low high e = ap (λ c. if c then Among [] else Between (Some low) (Some high)) e

bounds_again : (low high : Option ℤ) → canonical_test (canonical_bounds low high) ≡ canonical_bounds low high
bounds_again None high = refl
bounds_again (Some low) None = refl
bounds_again (Some low) (Some high) = bounds_chosen (int_lt high low) low high refl

test_again : (t : Test) → canonical_test (canonical_test t) ≡ canonical_test t
test_again (Among list) = ap Among (set_of_again value_cmp value_cmp_total list)
test_again (Except list) = ap Except (set_of_again value_cmp value_cmp_total list)
test_again (Between low high) = bounds_again low high

abbrev IsSettled : Predicate → Type 0
IsSettled p = canonical_test p.test ≡ p.test

all_from : {X : Type 0} (P : X → Type 0) (xs : List X) → Each P xs → All P xs
all_from P [] e = All-nil P
all_from P (x ∷ xs) e = All-cons P x xs e.0 (all_from P xs e.1)

pub all_settled : (q : Query) → IsCanonical q → All (λ p. canonical_test p.test ≡ p.test) q.filters
all_settled q e =
    let fs = map canonical_predicate q.filters in
    let each = each_set_of IsSettled predicate_cmp fs (each_map IsSettled canonical_predicate (λ p. test_again p.test) q.filters) in
    all_from IsSettled q.filters (subst (Each IsSettled) (ap (λ (p : Query). p.filters) e) each)
