-- What a search in an ascending list finds.
use Rattle.std.proofs.Common.{◌≡◌, ℕ, zero, suc, ◌+◌, ◌<◌, ◌≤◌, Bool, true, false, ◌||◌, List, [], ◌∷◌, map, length, take, drop, slice_index_or, refl, sym, ap, ◌∙◌, subst, arith, add-one, Result, Ok, Err}
use Rattle.std.specs.Bool.{IsTrue}
use Rattle.std.specs.List.{AllWithin, IsAllAdjacentAnswer, list_any}
use Rattle.std.specs.List.Sorted.{IsBinarySearchResult, IsNonDecreasingBy, IsSearchInRange, IsSorted}
use Rattle.std.specs.Cmp.{IsTotalOrder}
use Rattle.std.specs.Result.{is_ok}
use Rattle.std.specs.declared.cmp.Ordering.{Ordering}
use Rattle.std.specs.declared.cmp.Ordering.TheVariants.{Less, Equal, Greater}
use Rattle.std.specs.Ordering.{as_partial_cmp, is_eq, is_le, is_lt, nat_cmp, ordering_reverse, ordering_then, partial_le}
use Rattle.std.proofs.lemmas.Bool.Decides.{nat_tests}
use Rattle.std.proofs.lemmas.List.Folds.{list_any_at}
use Rattle.std.proofs.lemmas.List.Sorted.{IsNonDecreasingBy-from_all_adjacent, searchable_from_sorted}
use Rattle.dq_base.proofs.SetLaws.{Ascends, ascends_set_of}
use Rattle.dq_base.specs.Canonical.{IsCanonical, canonical_predicate, predicate_cmp}
use Rattle.dq_base.specs.PredicateOrder.{predicate_cmp_total}
use Rattle.dq_base.specs.Sets.{has}
use Rattle.dq_base.specs.declared.query.Query.{Query}

-- what holds of no item below a place holds of some item exactly where it does of one from there on
pub none_before : {X : Type 0} (p : X → Bool) (xs : List X) (i : ℕ) → AllWithin (λ y. p y ≡ false) xs 0 i → list_any p (drop i xs) ≡ list_any p xs
none_before p [] zero h = refl
none_before p [] (suc i) h = refl
none_before p (x ∷ xs) zero h = refl
none_before p (x ∷ xs) (suc i) h = none_before p xs i (λ k d l u. h (suc k) d (omega arith) (omega arith)) ∙ ap (λ b. b || list_any p xs) (sym (h 0 x (omega arith) (omega arith)))

pub none_from : {X : Type 0} (p : X → Bool) (xs : List X) (i : ℕ) → AllWithin (λ y. p y ≡ false) xs i (length xs) → list_any p (take i xs) ≡ list_any p xs
none_from p [] zero h = refl
none_from p [] (suc i) h = refl
none_from p (x ∷ xs) zero h = none_from p xs zero (λ k d l u. h (suc k) d (omega arith) (omega arith)) ∙ ap (λ b. b || list_any p xs) (sym (h 0 x (omega arith) (omega arith)))
none_from p (x ∷ xs) (suc i) h = ap (λ b. p x || b) (none_from p xs i (λ k d l u. h (suc k) d (omega arith) (omega arith)))

drop_none : {X : Type 0} (xs : List X) → drop 0 xs ≡ xs
drop_none [] = refl
drop_none (x ∷ xs) = refl

pub none_left : {X : Type 0} (p : X → Bool) (xs : List X) (i : ℕ) → AllWithin (λ y. p y ≡ false) xs i (length xs) → list_any p (drop i xs) ≡ false
none_left p [] zero h = refl
none_left p [] (suc i) h = refl
none_left p (x ∷ xs) zero h = ap (λ b. b || list_any p xs) (h 0 x (omega arith) (omega arith)) ∙ ap (list_any p) (sym (drop_none xs)) ∙ none_left p xs zero (λ k d l u. h (suc k) d (omega arith) (omega arith))
none_left p (x ∷ xs) (suc i) h = none_left p xs i (λ k d l u. h (suc k) d (omega arith) (omega arith))

turned_eq : (o : Ordering) → is_eq (ordering_reverse o) ≡ is_eq o
turned_eq Less = refl
turned_eq Equal = refl
turned_eq Greater = refl

module _ {X : Type 0} (cmp : X → X → Ordering) (o : IsTotalOrder cmp) where
  flipped : (x y : X) (r : Ordering) → cmp y x ≡ r → is_eq (cmp x y) ≡ is_eq r
  flipped x y r e = ap is_eq (o.antisymm x y ∙ ap ordering_reverse e) ∙ turned_eq r

  -- a search finds an item exactly where the list has its like
  pub search_has : (xs : List X) (x : X) (r : Result ℕ ℕ) → IsSorted cmp xs → IsSearchInRange r (length xs) → IsBinarySearchResult (λ y. cmp y x) xs r → is_ok r ≡ has cmp xs x
  search_has xs x (Ok i) s b h = sym (list_any_at (λ y. is_eq (cmp x y)) xs i x b (flipped x (slice_index_or xs i x) Equal (h x)))
  search_has xs x (Err i) s b h =
      let point = h (searchable_from_sorted o (λ y. y) xs x s) in
      let before = none_before (λ y. is_eq (cmp x y)) xs i (λ k d l u. flipped x (slice_index_or xs k d) Less (point.0 k d l u)) in
      let behind = none_left (λ y. is_eq (cmp x y)) xs i (λ k d l u. flipped x (slice_index_or xs k d) Greater (point.1 k d l u)) in
      sym behind ∙ before

  next_above : (xs : List X) → Ascends cmp xs → (k : ℕ) (d : X) → suc k < length xs → cmp (slice_index_or xs k d) (slice_index_or xs (suc k) d) ≡ Less
  next_above [] a k d h = absurd (omega arith)
  next_above (x ∷ []) a k d h = absurd (omega arith)
  next_above (x ∷ y ∷ ys) a zero d h = a.0.0
  next_above (x ∷ y ∷ ys) a (suc k) d h = next_above (y ∷ ys) a.1 k d (omega arith)

  pub sorted_ascends : (xs : List X) → Ascends cmp xs → IsSorted cmp xs
  sorted_ascends xs a k d l h =
      let s : suc k < length xs = omega arith in
      rw add-one (ap is_lt (o.antisymm (slice_index_or xs (suc k) d) (slice_index_or xs k d) ∙ ap ordering_reverse (next_above xs a k d s)))

  not_below : (x y : X) (r : Ordering) → cmp x y ≡ r → is_le r ≡ true → is_lt (cmp y x) ≡ false
  not_below x y Less e h = ap is_lt (o.antisymm y x ∙ ap ordering_reverse e)
  not_below x y Equal e h = ap is_lt (o.antisymm y x ∙ ap ordering_reverse e)
  not_below x y Greater e h = cc

  pub sorted_tested : (xs : List X) (r : Bool) → IsAllAdjacentAnswer (λ x y b. partial_le (as_partial_cmp cmp) x y ≡ b) xs r → IsTrue r → IsSorted cmp xs
  sorted_tested xs true h t k d l u = not_below (slice_index_or xs k d) (slice_index_or xs (k + 1) d) _ refl (h k d u)
  sorted_tested xs false h t k d l u = cc

-- a canonical query's predicates ascend
ascending_filters : (q : Query) → IsCanonical q → Ascends predicate_cmp q.filters
ascending_filters q e = subst (Ascends predicate_cmp) (ap (λ (r : Query). r.filters) e) (ascends_set_of predicate_cmp predicate_cmp_total (map canonical_predicate q.filters))

pub sorted_filters : (q : Query) → IsCanonical q → IsSorted predicate_cmp q.filters
sorted_filters q e = sorted_ascends predicate_cmp predicate_cmp_total q.filters (ascending_filters q e)

column_le : (a b : ℕ) (o : Ordering) → ordering_then (nat_cmp a b) o ≡ Less → a ≤ b
column_le a b o e = grind (arith, nat_tests)

pub rising_columns : (q : Query) → IsCanonical q → IsNonDecreasingBy (λ f. f.column) q.filters
rising_columns q e = IsNonDecreasingBy-from_all_adjacent (λ f. f.column) q.filters (λ k d h. let s : suc k < length q.filters = omega arith in rw add-one (column_le _ _ _ (next_above predicate_cmp predicate_cmp_total q.filters (ascending_filters q e) k d s)))
