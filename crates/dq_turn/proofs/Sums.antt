-- Lists read by `get_elem?`, and sums over them.
use Rattle.std.proofs.Common.{◌≡◌, ◌≢◌, ◌⊎◌, ℕ, zero, suc, ◌+◌, ◌<◌, ◌≤◌, eqb, List, [], ◌∷◌, ◌++◌, length, set, sum_by, sym, refl, ap, ◌∙◌, subst, inl, inr, ⊎_elim, arith, eq-eqb, ne_eqb}
use Rattle.std.proofs.lemmas.List.Sums.{sum_by-cons}
use mathlib.Core.Option.{some, some-injective, some-ne-none}
use prog.Atomic.{either}
use lib.ListN.{get_elem?}
use Rattle.atomic_table.proofs.Lists.{at_set}

-- f, but x at i
abbrev pub put : (ℕ → ℕ) → ℕ → ℕ → ℕ → ℕ
put f i x j = either (eqb j i) x (f j)

pub put_here : (f : ℕ → ℕ) (i x : ℕ) → put f i x i ≡ x
put_here f i x = ap (λ t. either t x (f i)) (eq-eqb i i refl)

pub put_else : (f : ℕ → ℕ) (i x j : ℕ) → j ≢ i → put f i x j ≡ f j
put_else f i x j n = ap (λ t. either t x (f j)) (ne_eqb j i n)

module _ {A : Type 0} where
  pub below : (l : List A) (i : ℕ) (a : A) → get_elem? l i ≡ some a → i < length l
  below [] i a e = absurd (some-ne-none a (sym e))
  below (x ∷ xs) zero a e = omega arith
  below (x ∷ xs) (suc i) a e = let h = below xs i a e in omega arith

  pub one_at : (l : List A) (i : ℕ) (a b : A) → get_elem? l i ≡ some a → get_elem? l i ≡ some b → a ≡ b
  one_at l i a b e f = some-injective a b (sym e ∙ f)

  pub at_push : (l : List A) (a b : A) (j : ℕ) → get_elem? (l ++ a ∷ []) j ≡ some b → (get_elem? l j ≡ some b) ⊎ ((j ≡ length l) × (a ≡ b))
  at_push [] a b zero e = inr (refl, some-injective a b e)
  at_push [] a b (suc j) e = absurd (some-ne-none b (sym e))
  at_push (x ∷ xs) a b zero e = inl e
  at_push (x ∷ xs) a b (suc j) e = ⊎_elim (λ h. inl h) (λ (t : (j ≡ length xs) × (a ≡ b)). inr (ap suc t.0, t.1)) (at_push xs a b j e)

  -- what holds of the new one at its place, and of the others, holds of all
  pub each_set : (K : ℕ → A → Type 0) (l : List A) (i : ℕ) (w : A) → K i w → ((j : ℕ) (a : A) → j ≢ i → get_elem? l j ≡ some a → K j a)
      → (j : ℕ) (a : A) → get_elem? (set l i w) j ≡ some a → K j a
  each_set K l i w mine others j a e = ⊎_elim (λ (t : (j ≡ i) × (w ≡ a)). subst (λ (z : ℕ × A). K z.0 z.1) (λ k. (sym t.0 k, t.1 k)) mine)
      (λ (t : (j ≢ i) × (get_elem? l j ≡ some a)). others j a t.0 t.1) (at_set l i j w a e)

  pub sum_set : (f : A → ℕ) (l : List A) (i : ℕ) (a b : A) → get_elem? l i ≡ some a → sum_by f (set l i b) + f a ≡ sum_by f l + f b
  sum_set f [] i a b e = absurd (some-ne-none a (sym e))
  sum_set f (x ∷ xs) zero a b e = let is : f x ≡ f a = ap f (some-injective x a e) in omega (arith, sum_by-cons f b xs, sum_by-cons f x xs)
  sum_set f (x ∷ xs) (suc i) a b e = omega (arith, sum_set f xs i a b e, sum_by-cons f x (set xs i b), sum_by-cons f x xs)

  pub sum_le : (f g : A → ℕ) (l : List A) → ((i : ℕ) (a : A) → get_elem? l i ≡ some a → f a ≤ g a) → sum_by f l ≤ sum_by g l
  sum_le f g [] h = omega arith
  sum_le f g (x ∷ xs) h = omega (arith, h 0 x refl, sum_le f g xs (λ i a e. h (suc i) a e), sum_by-cons f x xs, sum_by-cons g x xs)

  pub sum_one : (f : A → ℕ) (l : List A) (i : ℕ) (a : A) → get_elem? l i ≡ some a → f a ≤ sum_by f l
  sum_one f [] i a e = absurd (some-ne-none a (sym e))
  sum_one f (x ∷ xs) zero a e = let is : f x ≡ f a = ap f (some-injective x a e) in omega (arith, sum_by-cons f x xs)
  sum_one f (x ∷ xs) (suc i) a e = omega (arith, sum_one f xs i a e, sum_by-cons f x xs)

  pub sum_two : (f : A → ℕ) (l : List A) (i j : ℕ) (a b : A) → i ≢ j → get_elem? l i ≡ some a → get_elem? l j ≡ some b → f a + f b ≤ sum_by f l
  sum_two f [] i j a b n e g = absurd (some-ne-none a (sym e))
  sum_two f (x ∷ xs) zero zero a b n e g = absurd (n refl)
  sum_two f (x ∷ xs) zero (suc j) a b n e g = let is : f x ≡ f a = ap f (some-injective x a e) in omega (arith, sum_one f xs j b g, sum_by-cons f x xs)
  sum_two f (x ∷ xs) (suc i) zero a b n e g = let is : f x ≡ f b = ap f (some-injective x b g) in omega (arith, sum_one f xs i a e, sum_by-cons f x xs)
  sum_two f (x ∷ xs) (suc i) (suc j) a b n e g = omega (arith, sum_two f xs i j a b (λ h. n (ap suc h)) e g, sum_by-cons f x xs)
