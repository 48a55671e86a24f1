-- The first item that passes a test, by its place.
use Rattle.std.proofs.Common.{◌≡◌, ℕ, suc, ◌+◌, ◌<◌, ◌≤◌, Bool, true, false, not, cond, List, [], ◌∷◌, ◌++◌, length, get_or, remove, find, position, refl, sym, ap, ◌∙◌, subst, arith, Some, None, nat_lt, slice_set}
use Rattle.std.specs.Prelude.{if◌then◌else◌}
use Rattle.std.specs.List.{position_or_len}
use Rattle.std.proofs.lemmas.Bool.Decides.{nat_tests}
use Rattle.dq_flight.specs.Flights.{replaced}

below_by : (b : Bool) (m n i : ℕ) → nat_lt m n ≡ b → cond b (Some m) None ≡ Some i → (i ≡ m) × (m < n)
below_by true m n i e h = let s : m ≡ i = cc in (sym s, grind (arith, nat_tests))
below_by false m n i e h = cc

not_below : (b : Bool) (m n : ℕ) → nat_lt m n ≡ b → cond b (Some m) None ≡ None → n ≤ m
not_below true m n e h = cc
not_below false m n e h = grind (arith, nat_tests)

module _ {X : Type 0} (p : X → Bool) where
  pub at_place : (xs : List X) (i : ℕ) → position p xs ≡ Some i → (i ≡ position_or_len p xs) × (position_or_len p xs < length xs)
  at_place xs i h = below_by (nat_lt (position_or_len p xs) (length xs)) (position_or_len p xs) (length xs) i refl h

  pub at_none : (xs : List X) → position p xs ≡ None → length xs ≤ position_or_len p xs
  at_none xs h = not_below (nat_lt (position_or_len p xs) (length xs)) (position_or_len p xs) (length xs) refl h

  find_step : (b : Bool) (x d : X) (xs : List X) (n : ℕ) → cond (not b) (1 + n) 0 < suc (length xs) → (n < length xs → find p xs ≡ Some (get_or xs n d))
      → cond b (Some x) (find p xs) ≡ Some (get_or (x ∷ xs) (cond (not b) (1 + n) 0) d)
  find_step true x d xs n l h = refl
  find_step false x d xs n l h =
      let e : suc n ≡ 1 + n = omega arith in
      h (omega arith) ∙ ap (λ k. Some (get_or (x ∷ xs) k d)) e

  found_by : (xs : List X) (d : X) → position_or_len p xs < length xs → find p xs ≡ Some (get_or xs (position_or_len p xs) d)
  found_by [] d l = absurd (omega arith)
  found_by (x ∷ xs) d l = find_step (p x) x d xs (position_or_len p xs) l (found_by xs d)

  pub found : (xs : List X) (i : ℕ) (d : X) → position p xs ≡ Some i → find p xs ≡ Some (get_or xs i d)
  found xs i d h = let a = at_place xs i h in found_by xs d a.1 ∙ ap (λ n. Some (get_or xs n d)) (sym a.0)

  none_found_step : (b : Bool) (x : X) (xs : List X) (n : ℕ) → suc (length xs) ≤ cond (not b) (1 + n) 0 → (length xs ≤ n → find p xs ≡ None) → cond b (Some x) (find p xs) ≡ None
  none_found_step true x xs n l h = absurd (omega arith)
  none_found_step false x xs n l h = h (omega arith)

  none_found_by : (xs : List X) → length xs ≤ position_or_len p xs → find p xs ≡ None
  none_found_by [] l = refl
  none_found_by (x ∷ xs) l = none_found_step (p x) x xs (position_or_len p xs) l (none_found_by xs)

  -- there is one item at the place
  pub one_item : (xs : List X) (i : ℕ) (x y : X) → position p xs ≡ Some i → x ≡ get_or xs i x → y ≡ get_or xs i y → x ≡ y
  one_item xs i x y h e f = let s = sym (found xs i x h) ∙ found xs i y h in let t : get_or xs i x ≡ get_or xs i y = cc in e ∙ t ∙ sym f

  pub none_found : (xs : List X) → position p xs ≡ None → find p xs ≡ None
  none_found xs h = none_found_by xs (at_none xs h)

  module _ (g : X → List X) where
    none_step : (b : Bool) (x : X) (xs rest : List X) (n : ℕ) → suc (length xs) ≤ cond (not b) (1 + n) 0 → (length xs ≤ n → xs ≡ rest) → x ∷ xs ≡ (if b then g x ++ xs else x ∷ rest)
    none_step true x xs rest n l h = absurd (omega arith)
    none_step false x xs rest n l h = ap (λ ys. x ∷ ys) (h (omega arith))

    none_by : (xs : List X) → length xs ≤ position_or_len p xs → xs ≡ replaced p g xs
    none_by [] l = refl
    none_by (x ∷ xs) l = none_step (p x) x xs (replaced p g xs) (position_or_len p xs) l (none_by xs)

    -- nothing is replaced
    pub replaced_none : (xs : List X) → position p xs ≡ None → xs ≡ replaced p g xs
    replaced_none xs h = none_by xs (at_none xs h)

    set_step : (b : Bool) (x y d : X) (xs rest : List X) (n : ℕ) → cond (not b) (1 + n) 0 < suc (length xs) → g (get_or (x ∷ xs) (cond (not b) (1 + n) 0) d) ≡ y ∷ []
        → (n < length xs → g (get_or xs n d) ≡ y ∷ [] → slice_set xs n y ≡ rest) → slice_set (x ∷ xs) (cond (not b) (1 + n) 0) y ≡ (if b then g x ++ xs else x ∷ rest)
    set_step true x y d xs rest n l e h = sym (ap (λ ys. ys ++ xs) e)
    set_step false x y d xs rest n l e h =
        let s : 1 + n ≡ suc n = omega arith in
        let P : ℕ → Type 0 = λ k. g (get_or (x ∷ xs) k d) ≡ y ∷ [] in
        ap (λ k. slice_set (x ∷ xs) k y) s ∙ ap (λ ys. x ∷ ys) (h (omega arith) (subst P s e))

    set_by : (xs : List X) (y d : X) → position_or_len p xs < length xs → g (get_or xs (position_or_len p xs) d) ≡ y ∷ [] → slice_set xs (position_or_len p xs) y ≡ replaced p g xs
    set_by [] y d l e = absurd (omega arith)
    set_by (x ∷ xs) y d l e = set_step (p x) x y d xs (replaced p g xs) (position_or_len p xs) l e (set_by xs y d)

    -- one is replaced by one
    pub replaced_by : (xs : List X) (i : ℕ) (y d : X) → position p xs ≡ Some i → g (get_or xs i d) ≡ y ∷ [] → slice_set xs i y ≡ replaced p g xs
    replaced_by xs i y d h e =
        let a = at_place xs i h in
        let P : ℕ → Type 0 = λ n. g (get_or xs n d) ≡ y ∷ [] in
        ap (λ n. slice_set xs n y) a.0 ∙ set_by xs y d a.1 (subst P a.0 e)

    out_step : (b : Bool) (x d : X) (xs rest : List X) (n : ℕ) → cond (not b) (1 + n) 0 < suc (length xs) → g (get_or (x ∷ xs) (cond (not b) (1 + n) 0) d) ≡ []
        → (n < length xs → g (get_or xs n d) ≡ [] → remove xs n ≡ rest) → remove (x ∷ xs) (cond (not b) (1 + n) 0) ≡ (if b then g x ++ xs else x ∷ rest)
    out_step true x d xs rest n l e h = sym (ap (λ ys. ys ++ xs) e)
    out_step false x d xs rest n l e h =
        let s : 1 + n ≡ suc n = omega arith in
        let P : ℕ → Type 0 = λ k. g (get_or (x ∷ xs) k d) ≡ [] in
        ap (λ k. remove (x ∷ xs) k) s ∙ ap (λ ys. x ∷ ys) (h (omega arith) (subst P s e))

    out_by : (xs : List X) (d : X) → position_or_len p xs < length xs → g (get_or xs (position_or_len p xs) d) ≡ [] → remove xs (position_or_len p xs) ≡ replaced p g xs
    out_by [] d l e = absurd (omega arith)
    out_by (x ∷ xs) d l e = out_step (p x) x d xs (replaced p g xs) (position_or_len p xs) l e (out_by xs d)

    -- one is taken out
    pub replaced_out : (xs : List X) (i : ℕ) (d : X) → position p xs ≡ Some i → g (get_or xs i d) ≡ [] → remove xs i ≡ replaced p g xs
    replaced_out xs i d h e =
        let a = at_place xs i h in
        let P : ℕ → Type 0 = λ n. g (get_or xs n d) ≡ [] in
        ap (remove xs) a.0 ∙ out_by xs d a.1 (subst P a.0 e)

    same_step : (b : Bool) (x d : X) (xs rest : List X) (n : ℕ) → cond (not b) (1 + n) 0 < suc (length xs)
        → g (get_or (x ∷ xs) (cond (not b) (1 + n) 0) d) ≡ get_or (x ∷ xs) (cond (not b) (1 + n) 0) d ∷ []
        → (n < length xs → g (get_or xs n d) ≡ get_or xs n d ∷ [] → xs ≡ rest) → x ∷ xs ≡ (if b then g x ++ xs else x ∷ rest)
    same_step true x d xs rest n l e h = sym (ap (λ ys. ys ++ xs) e)
    same_step false x d xs rest n l e h =
        let s : 1 + n ≡ suc n = omega arith in
        let P : ℕ → Type 0 = λ k. g (get_or (x ∷ xs) k d) ≡ get_or (x ∷ xs) k d ∷ [] in
        ap (λ ys. x ∷ ys) (h (omega arith) (subst P s e))

    same_by : (xs : List X) (d : X) → position_or_len p xs < length xs → g (get_or xs (position_or_len p xs) d) ≡ get_or xs (position_or_len p xs) d ∷ [] → xs ≡ replaced p g xs
    same_by [] d l e = absurd (omega arith)
    same_by (x ∷ xs) d l e = same_step (p x) x d xs (replaced p g xs) (position_or_len p xs) l e (same_by xs d)

    -- one is replaced by itself
    pub replaced_same : (xs : List X) (i : ℕ) (d : X) → position p xs ≡ Some i → g (get_or xs i d) ≡ get_or xs i d ∷ [] → xs ≡ replaced p g xs
    replaced_same xs i d h e =
        let a = at_place xs i h in
        let P : ℕ → Type 0 = λ n. g (get_or xs n d) ≡ get_or xs n d ∷ [] in
        same_by xs d a.1 (subst P a.0 e)
