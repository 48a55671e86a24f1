-- What a binary search of an ascending list finds.
use Rattle.std.proofs.Common.{◌≡◌, ℕ, ◌+◌, List, [], ◌∷◌, length, get_or, sym, subst, ap, ◌∙◌, ⊎_elim, suc, zero, Result, Ok, Err, arith}
use Rattle.std.specs.Ordering.{is_eq, is_lt, ordering_reverse}
use Rattle.std.specs.declared.cmp.Ordering.{Ordering}
use Rattle.std.specs.declared.cmp.Ordering.TheVariants.{Less, Equal, Greater}
use Rattle.std.specs.Result.{is_ok}
use Rattle.std.specs.Cmp.{IsTotalOrder}
use Rattle.std.specs.List.Sorted.{IsBinarySearchResult, IsSearchInRange, IsSorted}
use Rattle.std.proofs.lemmas.List.Folds.{list_any_at, list_any_none}
use Rattle.std.proofs.lemmas.List.Sorted.{searchable_from_sorted}
use Rattle.std.proofs.lemmas.Bool.{cases_lt}
use Rattle.dq_base.specs.Sets.{has, set_of}
use Rattle.dq_base.proofs.SetLaws.{Ascends, ascends_set_of}

module _ {X : Type 0} (cmp : X → X → Ordering) (o : IsTotalOrder cmp) where
  turned : (r : Ordering) (x y : X) → cmp x y ≡ r → cmp y x ≡ ordering_reverse r
  turned r x y e = o.antisymm y x ∙ ap ordering_reverse e

  -- an ascending list is sorted
  sorted_from_ascends : (xs : List X) → Ascends cmp xs → IsSorted cmp xs
  sorted_from_ascends [] a k d low high = absurd (omega arith)
  sorted_from_ascends (x ∷ []) a k d low high = absurd (omega arith)
  sorted_from_ascends (x ∷ y ∷ ys) a zero d low high = ap is_lt (turned Less x y a.0.0)
  sorted_from_ascends (x ∷ y ∷ ys) a (suc k) d low high =
      let next : suc k + 1 ≡ suc (k + 1) = omega arith in
      ap (λ n. is_lt (cmp (get_or (x ∷ y ∷ ys) n d) (get_or (y ∷ ys) k d))) next ∙ sorted_from_ascends (y ∷ ys) a.1 k d (omega arith) (omega arith)

  -- a search of an ascending list ends well exactly where the list has the item's like
  found_by : (xs : List X) (x : X) (r : Result ℕ ℕ) → Ascends cmp xs → IsSearchInRange r (length xs) → IsBinarySearchResult (λ y. cmp y x) xs r → is_ok r ≡ has cmp xs x
  found_by xs x (Ok i) a below here = sym (list_any_at (λ y. is_eq (cmp x y)) xs i x below (ap is_eq (turned Equal (get_or xs i x) x (here x))))
  found_by xs x (Err i) a below parted =
      let p = parted (searchable_from_sorted o (λ y. y) xs x (sorted_from_ascends xs a)) in
      sym (list_any_none (λ y. is_eq (cmp x y)) xs (λ k d h. ⊎_elim
      (λ before. ap is_eq (turned Less (get_or xs k d) x (p.0 k d (omega arith) before)))
      (λ behind. ap is_eq (turned Greater (get_or xs k d) x (p.1 k d behind h)))
      (cases_lt k i)))

  -- the same of a list that is its own set
  pub found_in_set : (xs : List X) (x : X) (r : Result ℕ ℕ) → set_of cmp xs ≡ xs → IsSearchInRange r (length xs) → IsBinarySearchResult (λ y. cmp y x) xs r → is_ok r ≡ has cmp xs x
  found_in_set xs x r e below h = found_by xs x r (subst (Ascends cmp) e (ascends_set_of cmp o xs)) below h
