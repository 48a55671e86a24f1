-- An item carried to its place from the front on.
use Rattle.std.proofs.Common.{◌≡◌, ℕ, zero, suc, ◌+◌, ◌<◌, List, [], ◌∷◌, ◌++◌, take, drop, length, get_or, refl, sym, ap, ◌∙◌, arith, slice_set, Some}
use Rattle.std.specs.Prelude.{slice_get}

front_set : (x : ℕ) (xs : List ℕ) (i : ℕ) → i < length xs → slice_set (take i (x ∷ xs) ++ drop i xs) i (get_or (x ∷ xs) i 0) ≡ take (suc i) (x ∷ xs) ++ drop (suc i) xs
front_set x [] i l = absurd (omega arith)
front_set x (y ∷ ys) zero l = refl
front_set x (y ∷ ys) (suc i) l = ap (λ zs. x ∷ zs) (front_set y ys i (omega arith))

-- what stands at the place is put there, and what stood there is carried on
pub front_step : (x : ℕ) (xs list : List ℕ) (i v : ℕ) → i < length xs → list ≡ take i (x ∷ xs) ++ drop i xs → v ≡ get_or (x ∷ xs) i 0 → slice_set list i v ≡ take (i + 1) (x ∷ xs) ++ drop (i + 1) xs
front_step x xs list i v l e f =
    let n : suc i ≡ i + 1 = omega arith in
    (λ j. slice_set (e j) i (f j)) ∙ front_set x xs i l ∙ ap (λ k. take k (x ∷ xs) ++ drop k xs) n

front_get : (x : ℕ) (xs : List ℕ) (i : ℕ) → i < length xs → slice_get (take i (x ∷ xs) ++ drop i xs) i ≡ Some (get_or (x ∷ xs) (suc i) 0)
front_get x [] i l = absurd (omega arith)
front_get x (y ∷ ys) zero l = refl
front_get x (y ∷ ys) (suc i) l = front_get y ys i (omega arith)

pub front_carried : (x : ℕ) (xs list : List ℕ) (i v : ℕ) → i < length xs → list ≡ take i (x ∷ xs) ++ drop i xs → slice_get list i ≡ Some v → v ≡ get_or (x ∷ xs) (i + 1) 0
front_carried x xs list i v l e f =
    let n : suc i ≡ i + 1 = omega arith in
    let s = sym f ∙ ap (λ ys. slice_get ys i) e ∙ front_get x xs i l in
    let t : v ≡ get_or (x ∷ xs) (suc i) 0 = cc in
    t ∙ ap (λ k. get_or (x ∷ xs) k 0) n
