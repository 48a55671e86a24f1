-- What is left of a list behind so many items.
use Rattle.std.proofs.Common.{◌≡◌, ℕ, zero, suc, ◌+◌, List, [], ◌∷◌, drop, refl, ap, sym, ◌∙◌, arith}
use Rattle.std.specs.Prelude.{slice_get, Some, None}

module _ {X : Type 0} where
  pub left_none : (xs : List X) (n : ℕ) → slice_get xs n ≡ None → drop n xs ≡ []
  left_none [] zero none = refl
  left_none [] (suc n) none = refl
  left_none (x ∷ xs) zero none = cc
  left_none (x ∷ xs) (suc n) none = left_none xs n none

  pub left_some : (xs : List X) (n : ℕ) (x : X) → slice_get xs n ≡ Some x → drop n xs ≡ x ∷ drop 1 (drop n xs)
  left_some [] n x some = cc
  left_some (y ∷ xs) zero x some = let same : y ≡ x = cc in ap (λ z. z ∷ xs) same
  left_some (y ∷ xs) (suc n) x some = left_some xs n x some

  less_at : (xs : List X) (n : ℕ) → drop (suc n) xs ≡ drop 1 (drop n xs)
  less_at [] zero = refl
  less_at [] (suc n) = refl
  less_at (x ∷ xs) zero = refl
  less_at (x ∷ xs) (suc n) = less_at xs n

  pub left_less : (xs : List X) (n : ℕ) → drop (n + 1) xs ≡ drop 1 (drop n xs)
  left_less xs n = let next : n + 1 ≡ suc n = omega arith in ap (λ k. drop k xs) next ∙ less_at xs n
