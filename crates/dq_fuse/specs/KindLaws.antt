-- Kinds that are equal are an equivalence, and are hashed alike.
use Rattle.std.specs.Prelude.{◌≡◌, ℕ, true, refl, nat_eq}
use Rattle.std.proofs.Common.{ap, arith}
use Rattle.std.proofs.lemmas.Bool.Decides.{nat_tests}
use Rattle.std.specs.declared.cmp.Ordering.{Ordering}
use Rattle.std.specs.declared.cmp.Ordering.TheVariants.{Less, Equal, Greater}
use Rattle.std.specs.Cmp.{IsEquivalence}
use Rattle.std.specs.Ordering.{eq_by_cmp, is_eq}
use Rattle.std.specs.Hash as fed
use Rattle.std.specs.Hash.{Alike, and-Alike, on_Alike, items_Alike}
use Rattle.std.proofs.lemmas.Cmp.{nat_eq_equiv, on_equiv, and_equiv, lists_equiv, eq_by_cmp_equiv}
use Rattle.dq_base.specs.Canonical.{predicate_cmp}
use Rattle.dq_base.specs.PredicateOrder.{predicate_cmp_total}
use Rattle.dq_base.proofs.Exact.{exact_predicates}
use Rattle.dq_fuse.specs.Kinds.{Pair, pair_eq, KindOf, kind_eq, predicate_input, pair_input, kind_input}

pub pair_eq_equiv : IsEquivalence pair_eq
pair_eq_equiv = and_equiv (on_equiv (λ (p : Pair). p.0) nat_eq_equiv) (on_equiv (λ (p : Pair). p.1) nat_eq_equiv)

pub predicates_equiv : IsEquivalence (eq_by_cmp predicate_cmp)
predicates_equiv = eq_by_cmp_equiv predicate_cmp_total

pub kind_eq_equiv : IsEquivalence kind_eq
kind_eq_equiv =
    and_equiv (and_equiv (on_equiv (λ (k : KindOf). k.source) nat_eq_equiv) (on_equiv (λ (k : KindOf). k.filters) (lists_equiv predicates_equiv)))
    (on_equiv (λ (k : KindOf). k.dims) (lists_equiv pair_eq_equiv))

pub tied : (o : Ordering) → is_eq o ≡ true → o ≡ Equal
tied Less e = cc
tied Equal e = refl
tied Greater e = cc

pub number_alike : (f : ℕ → fed.HashWrites) → Alike nat_eq f
number_alike f = record { fed = λ x y h. ap f (grind_eq x y h) }
  where
    grind_eq : (x y : ℕ) → nat_eq x y ≡ true → x ≡ y
    grind_eq x y h = grind (arith, nat_tests)

predicate_alike : Alike (eq_by_cmp predicate_cmp) predicate_input
predicate_alike = record { fed = λ x y h. ap predicate_input (exact_predicates x y (tied (predicate_cmp x y) h)) }

pair_alike : Alike pair_eq pair_input
pair_alike = and-Alike (on_Alike (λ (p : Pair). p.0) (number_alike fed.u32)) (on_Alike (λ (p : Pair). p.1) (number_alike fed.u32))

pub kind_alike : Alike kind_eq kind_input
kind_alike =
    and-Alike (and-Alike (on_Alike (λ (k : KindOf). k.source) (number_alike fed.u32)) (on_Alike (λ (k : KindOf). k.filters) (items_Alike predicate_alike)))
    (on_Alike (λ (k : KindOf). k.dims) (items_Alike pair_alike))
