-- Lists.
use Rattle.std.proofs.Common.{◌≡◌, ◌≢◌, ℕ, zero, suc, ◌+◌, ◌<◌, List, [], ◌∷◌, length, map, slice_get, slice_set, Some, refl, ap, sym, ◌∙◌, arith}
use Rattle.std.specs.List.{enumerate_from}

pub some_same : {X : Type 0} (x y : X) → Some x ≡ Some y → x ≡ y
some_same x y e = cc

pub got_within : {X : Type 0} (xs : List X) (i : ℕ) → i < length xs → (x : X) × (slice_get xs i ≡ Some x)
got_within [] i l = absurd (omega arith)
got_within (x ∷ xs) zero l = (x, refl)
got_within (x ∷ xs) (suc i) l = got_within xs i (omega arith)

pub within_got : {X : Type 0} (xs : List X) (i : ℕ) (x : X) → slice_get xs i ≡ Some x → i < length xs
within_got [] i x e = cc
within_got (y ∷ ys) zero x e = omega arith
within_got (y ∷ ys) (suc i) x e = let l = within_got ys i x e in omega (arith, l)

pub got_set : {X : Type 0} (xs : List X) (i : ℕ) (y z : X) → slice_get (slice_set xs i z) i ≡ Some y → y ≡ z
got_set [] i y z e = cc
got_set (x ∷ xs) zero y z e = cc
got_set (x ∷ xs) (suc i) y z e = got_set xs i y z e

pub got_other : {X : Type 0} (xs : List X) (i j : ℕ) (z : X) → j ≢ i → slice_get (slice_set xs i z) j ≡ slice_get xs j
got_other [] i j z ne = refl
got_other (x ∷ xs) zero zero z ne = absurd (ne refl)
got_other (x ∷ xs) zero (suc j) z ne = refl
got_other (x ∷ xs) (suc i) zero z ne = refl
got_other (x ∷ xs) (suc i) (suc j) z ne = got_other xs i j z (λ e. ne (ap suc e))

-- one more than a place is its number
pub place_of : (xs : List ℕ) (i k : ℕ) → slice_get (map (λ n. n + 1) xs) i ≡ Some (k + 1) → slice_get xs i ≡ Some k
place_of [] i k e = cc
place_of (x ∷ xs) zero k e =
    let same : x + 1 ≡ k + 1 = some_same (x + 1) (k + 1) e in
    let is : x ≡ k = omega (arith, same) in
    ap (λ (n : ℕ). Some n) is
place_of (x ∷ xs) (suc i) k e = place_of xs i k e

pub number_of : (xs : List ℕ) (i n : ℕ) → slice_get (map (λ n. n + 1) xs) i ≡ Some n → (k : ℕ) × (slice_get xs i ≡ Some k) × (n ≡ k + 1)
number_of [] i n e = cc
number_of (x ∷ xs) zero n e = (x, refl, sym (some_same (x + 1) n e))
number_of (x ∷ xs) (suc i) n e = number_of xs i n e

pub numbered_at : (xs : List ℕ) (i k : ℕ) → slice_get xs i ≡ Some k → slice_get (map (λ n. n + 1) xs) i ≡ Some (k + 1)
numbered_at [] i k e = cc
numbered_at (x ∷ xs) zero k e = ap (λ (n : ℕ). Some (n + 1)) (some_same x k e)
numbered_at (x ∷ xs) (suc i) k e = numbered_at xs i k e

module _ {X Y : Type 0} (g : ℕ × X → Y) where
  pub length_numbered : (n : ℕ) (xs : List X) → length (map g (enumerate_from n xs)) ≡ length xs
  length_numbered n [] = refl
  length_numbered n (x ∷ xs) = ap suc (length_numbered (n + 1) xs)

  got_from : (n : ℕ) (xs : List X) (i : ℕ) (y : Y) → slice_get (map g (enumerate_from n xs)) i ≡ Some y → (x : X) × (slice_get xs i ≡ Some x) × (g (n + i, x) ≡ y)
  got_from n [] i y e = cc
  got_from n (x ∷ xs) zero y e =
      let z : n + 0 ≡ n = omega arith in (x, refl, ap (λ k. g (k, x)) z ∙ some_same (g (n, x)) y e)
  got_from n (x ∷ xs) (suc i) y e =
      let s : n + suc i ≡ n + 1 + i = omega arith in
      let w = got_from (n + 1) xs i y e in (w.0, w.1, ap (λ k. g (k, w.0)) s ∙ w.2)

  -- an item of a numbered list comes of the one at its place
  pub got_numbered : (xs : List X) (i : ℕ) (y : Y) → slice_get (map g (enumerate_from 0 xs)) i ≡ Some y → (x : X) × (slice_get xs i ≡ Some x) × (g (i, x) ≡ y)
  got_numbered xs i y e =
      let z : i ≡ 0 + i = omega arith in
      let w = got_from 0 xs i y e in (w.0, w.1, ap (λ k. g (k, w.0)) z ∙ w.2)
