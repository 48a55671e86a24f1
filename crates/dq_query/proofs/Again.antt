-- A canonical form is its own.
use Rattle.std.proofs.Common.{◌≡◌, ℤ, Bool, true, false, [], map, refl, ap, ◌∙◌, Option, Some, None}
use Rattle.std.specs.Prelude.{int_lt, if◌then◌else◌}
use Rattle.dq_base.specs.Orders.{value_cmp}
use Rattle.dq_base.specs.ValueOrder.{value_cmp_total}
use Rattle.dq_base.specs.PredicateOrder.{predicate_cmp_total}
use Rattle.dq_base.specs.Canonical.{canonical, canonical_bounds, canonical_test, canonical_predicate, predicate_cmp, IsCanonical}
use Rattle.dq_base.specs.Sets.{set_of}
use Rattle.dq_base.proofs.SetLaws.{set_of_again, each_map, each_set_of, map_each}
use Rattle.dq_base.specs.declared.predicate.Test.{Test}
use Rattle.dq_base.specs.declared.predicate.Test.TheVariants.{Among, Except, Between}
use Rattle.dq_base.specs.declared.predicate.Predicate.{Predicate}
use Rattle.dq_base.specs.declared.query.Query.{Query}

bounds_chosen : (b : Bool) (low high : ℤ) → int_lt high low ≡ b → canonical_test (if b then Among [] else Between (Some low) (Some high)) ≡ (if b then Among [] else Between (Some low) (Some high))
bounds_chosen true low high e = refl
bounds_chosen false low high e = ap (λ c. if c then Among [] else Between (Some low) (Some high)) e

bounds_again : (low high : Option ℤ) → canonical_test (canonical_bounds low high) ≡ canonical_bounds low high
bounds_again None high = refl
bounds_again (Some low) None = refl
bounds_again (Some low) (Some high) = bounds_chosen (int_lt high low) low high refl

pub test_again : (t : Test) → canonical_test (canonical_test t) ≡ canonical_test t
test_again (Among list) = ap Among (set_of_again value_cmp value_cmp_total list)
test_again (Except list) = ap Except (set_of_again value_cmp value_cmp_total list)
test_again (Between low high) = bounds_again low high

predicate_again : (p : Predicate) → canonical_predicate (canonical_predicate p) ≡ canonical_predicate p
predicate_again p = ap (λ (t : Test). record p { test = t }) (test_again p.test)

pub canonical_again : (q : Query) → IsCanonical (canonical q)
canonical_again q =
    let fs = map canonical_predicate q.filters in
    let fixed = map_each canonical_predicate (set_of predicate_cmp fs) (each_set_of (λ p. canonical_predicate p ≡ p) predicate_cmp fs (each_map (λ p. canonical_predicate p ≡ p) canonical_predicate predicate_again q.filters)) in
    ap (λ gs. record q { filters = set_of predicate_cmp gs }) fixed ∙ ap (λ gs. record q { filters = gs }) (set_of_again predicate_cmp predicate_cmp_total fs)
