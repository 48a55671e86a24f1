-- Small facts on lists.
use Rattle.std.proofs.Common.{◌≡◌, ℕ, zero, suc, ◌+◌, ◌<◌, ◌≤◌, List, [], ◌∷◌, ◌++◌, length, take, slice_index_or, refl, sym, subst, Some, None, arith, take_all}
use Rattle.std.specs.Prelude.{slice_get}
use Rattle.std.proofs.lemmas.List.{take_more}
use Rattle.dq_rollup.specs.Pairs.{Paired}

-- past the end
pub absent : {X : Type 0} (xs : List X) (i : ℕ) (d : X) → None ≡ slice_get xs i → d ≡ slice_index_or xs i d
absent [] i d e = refl
absent (x ∷ xs) zero d e = cc
absent (x ∷ xs) (suc i) d e = absent xs i d e

pub present_at : {X : Type 0} (xs : List X) (i : ℕ) (d x : X) → slice_get xs i ≡ Some x → slice_index_or xs i d ≡ x
present_at [] i d x e = cc
present_at (y ∷ ys) zero d x e = cc
present_at (y ∷ ys) (suc i) d x e = present_at ys i d x e

pub got : {X : Type 0} (xs : List X) (i : ℕ) (d : X) → i < length xs → slice_get xs i ≡ Some (slice_index_or xs i d)
got [] i d h = absurd (omega arith)
got (x ∷ xs) zero d h = refl
got (x ∷ xs) (suc i) d h = got xs i d (omega arith)

pub got_below : {X : Type 0} (xs : List X) (i : ℕ) (x : X) → slice_get xs i ≡ Some x → i < length xs
got_below [] i x e = cc
got_below (y ∷ ys) zero x e = omega arith
got_below (y ∷ ys) (suc i) x e = let h : i < length ys = got_below ys i x e in omega arith

pub none_taken : {X : Type 0} (xs : List X) → take 0 xs ≡ []
none_taken [] = refl
none_taken (x ∷ xs) = refl

pub paired_push : {X Y : Type 0} (R : X → Y → Type 0) (xs : List X) (ys : List Y) (x : X) (y : Y) → Paired R xs ys → R x y → Paired R (xs ++ x ∷ []) (ys ++ y ∷ [])
paired_push R [] [] x y p r = (r, tt)
paired_push R [] (w ∷ ys) x y p r = absurd p
paired_push R (z ∷ xs) [] x y p r = absurd p
paired_push R (z ∷ xs) (w ∷ ys) x y p r = (p.0, paired_push R xs ys x y p.1 r)

-- a loop that pairs each item, at its start, its step and its end
pub paired_start : {X Y : Type 0} (R : X → Y → Type 0) (xs : List X) (ys : List Y) → ys ≡ [] → Paired R (take 0 xs) ys
paired_start {X = X} {Y = Y} R xs ys e = let P : List X → Type 0 = λ zs. Paired R zs ys in let Q : List Y → Type 0 = λ zs. Paired R [] zs in subst P (sym (none_taken xs)) (subst Q (sym e) tt)

pub paired_more : {X Y : Type 0} (R : X → Y → Type 0) (xs : List X) (i : ℕ) (d : X) (ys more : List Y) (y : Y) → i < length xs → Paired R (take i xs) ys → more ≡ ys ++ y ∷ [] → R (slice_index_or xs i d) y → Paired R (take (i + 1) xs) more
paired_more {X = X} {Y = Y} R xs i d ys more y h p e r =
    let P : List X → Type 0 = λ zs. Paired R zs more in
    let Q : List Y → Type 0 = λ zs. Paired R (take i xs ++ slice_index_or xs i d ∷ []) zs in
    subst P (sym (take_more xs i d h)) (subst Q (sym e) (paired_push R (take i xs) ys (slice_index_or xs i d) y p r))

pub paired_end : {X Y : Type 0} (R : X → Y → Type 0) (xs : List X) (i : ℕ) (ys : List Y) → length xs ≤ i → Paired R (take i xs) ys → Paired R xs ys
paired_end {X = X} R xs i ys h p = let P : List X → Type 0 = λ zs. Paired R zs ys in subst P (take_all i xs h) p
