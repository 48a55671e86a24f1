-- Taking an item out of a list by pulling those behind it.
use Rattle.std.proofs.Common.{◌≡◌, ℕ, zero, suc, ◌+◌, ◌<◌, ◌≤◌, List, [], ◌∷◌, length, get_or, remove, slice_set, take, length-set, refl, ap, sym, ◌∙◌, arith}
use Rattle.std.proofs.lemmas.Option.{get_or_from_slice_get}
use Rattle.std.specs.Prelude.{slice_get, Some, None}

module _ {X : Type 0} where
  pulled_at : (xs : List X) (i : ℕ) (x : X) → suc i < length xs → x ≡ get_or xs (suc i) x → remove (slice_set xs i x) (suc i) ≡ remove xs i
  pulled_at [] i x lt is = absurd (omega arith)
  pulled_at (y ∷ []) i x lt is = absurd (omega arith)
  pulled_at (y ∷ z ∷ xs) zero x lt is = ap (λ a. a ∷ xs) is
  pulled_at (y ∷ z ∷ xs) (suc i) x lt is = ap (λ ys. y ∷ ys) (pulled_at (z ∷ xs) i x (omega arith) is)

  pub pulled : (xs : List X) (i : ℕ) (x : X) → slice_get xs (i + 1) ≡ Some x → i + 1 < length xs → remove (slice_set xs i x) (i + 1) ≡ remove xs i
  pulled xs i x is lt =
      let next : i + 1 ≡ suc i = omega arith in
      let item : x ≡ get_or xs (suc i) x = sym (ap (λ k. get_or xs k x) (sym next) ∙ get_or_from_slice_get xs (i + 1) x x is) in
      ap (remove (slice_set xs i x)) next ∙ pulled_at xs i x (omega arith) item

  pub removed_last : (xs : List X) (n : ℕ) → length xs ≡ n + 1 → take n xs ≡ remove xs n
  removed_last [] n is = absurd (omega arith)
  removed_last (x ∷ []) zero is = refl
  removed_last (x ∷ y ∷ xs) zero is = absurd (omega arith)
  removed_last (x ∷ xs) (suc n) is = ap (λ ys. x ∷ ys) (removed_last xs n (omega arith))

  -- within the length there is an item
  pub there : (xs : List X) (i : ℕ) → i < length xs → slice_get xs i ≡ None → ⊥
  there [] i lt none = omega arith
  there (x ∷ xs) zero lt none = cc
  there (x ∷ xs) (suc i) lt none = there xs i (omega arith) none
