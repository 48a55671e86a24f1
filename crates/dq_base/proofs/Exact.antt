-- What compares as equal is equal.
use Rattle.std.proofs.Common.{◌≡◌, ℕ, List, [], ◌∷◌, refl, ap, ◌∙◌, Option, Some, None}
use Rattle.std.specs.declared.cmp.Ordering.{Ordering}
use Rattle.std.specs.declared.cmp.Ordering.TheVariants.{Less, Equal, Greater}
use Rattle.std.specs.Ordering.{ordering_then, int_cmp, nat_cmp}
use Rattle.std.specs.Option.{option_cmp}
use Rattle.std.specs.Cmp.Lexicographic.{slice_cmp}
use Rattle.std.proofs.lemmas.Map.Lookups.{CmpEqualImpliesEq, exact_bytes, exact_signed, exact_unsigned}
use Rattle.dq_base.specs.Orders.{value_cmp, key_cmp}
use Rattle.dq_base.specs.Canonical.{test_cmp, predicate_cmp}
use Rattle.dq_base.specs.declared.value.Value.{Value}
use Rattle.dq_base.specs.declared.value.Value.TheVariants.{Null, Int, Word}
use Rattle.dq_base.specs.declared.predicate.Test.{Test}
use Rattle.dq_base.specs.declared.predicate.Test.TheVariants.{Among, Except, Between}
use Rattle.dq_base.specs.declared.predicate.Predicate.{Predicate}

pub then_equal : (r s : Ordering) → ordering_then r s ≡ Equal → (r ≡ Equal) × (s ≡ Equal)
then_equal Less s e = cc
then_equal Equal s e = (refl, e)
then_equal Greater s e = cc

pub exact_lists : {X : Type 0} (R : X → X → Ordering) → CmpEqualImpliesEq R → (xs ys : List X) → slice_cmp R xs ys ≡ Equal → xs ≡ ys
exact_lists R h [] [] e = refl
exact_lists R h [] (y ∷ ys) e = cc
exact_lists R h (x ∷ xs) [] e = cc
exact_lists R h (x ∷ xs) (y ∷ ys) e =
    let t = then_equal (R x y) (slice_cmp R xs ys) e in
    ap (λ z. z ∷ xs) (h x y t.0) ∙ ap (λ zs. y ∷ zs) (exact_lists R h xs ys t.1)

pub exact_options : {X : Type 0} (R : X → X → Ordering) → CmpEqualImpliesEq R → (x y : Option X) → option_cmp R x y ≡ Equal → x ≡ y
exact_options R h None None e = refl
exact_options R h None (Some y) e = cc
exact_options R h (Some x) None e = cc
exact_options R h (Some x) (Some y) e = ap Some (h x y e)

pub exact_values : (x y : Value) → value_cmp x y ≡ Equal → x ≡ y
exact_values Null Null e = refl
exact_values Null (Int b) e = cc
exact_values Null (Word b) e = cc
exact_values (Int a) Null e = cc
exact_values (Int a) (Int b) e = ap Int (exact_signed a b e)
exact_values (Int a) (Word b) e = cc
exact_values (Word a) Null e = cc
exact_values (Word a) (Int b) e = cc
exact_values (Word a) (Word b) e = ap Word (exact_bytes a b e)

pub exact_keys : (x y : List Value) → key_cmp x y ≡ Equal → x ≡ y
exact_keys xs ys e = exact_lists value_cmp exact_values xs ys e

pub exact_tests : (x y : Test) → test_cmp x y ≡ Equal → x ≡ y
exact_tests (Among a) (Among b) e = ap Among (exact_keys a b e)
exact_tests (Among a) (Except b) e = cc
exact_tests (Among a) (Between l h) e = cc
exact_tests (Except a) (Among b) e = cc
exact_tests (Except a) (Except b) e = ap Except (exact_keys a b e)
exact_tests (Except a) (Between l h) e = cc
exact_tests (Between k g) (Among b) e = cc
exact_tests (Between k g) (Except b) e = cc
exact_tests (Between k g) (Between l h) e =
    let t = then_equal (option_cmp int_cmp k l) (option_cmp int_cmp g h) e in
    ap (λ z. Between z g) (exact_options int_cmp exact_signed k l t.0) ∙ ap (λ z. Between l z) (exact_options int_cmp exact_signed g h t.1)

pub exact_predicates : (x y : Predicate) → predicate_cmp x y ≡ Equal → x ≡ y
exact_predicates x y e =
    let t = then_equal (nat_cmp x.column y.column) (test_cmp x.test y.test) e in
    ap (λ (c : ℕ). record x { column = c }) (exact_unsigned x.column y.column t.0) ∙ ap (λ (u : Test). record y { test = u }) (exact_tests x.test y.test t.1)
