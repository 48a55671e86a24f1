-- How a loop comes to hold of each item.
use Rattle.std.proofs.Common.{◌≡◌, ℕ, zero, suc, ◌+◌, ◌<◌, ◌≤◌, List, [], ◌∷◌, length, take, slice_index_or, sym, subst, add-one, take_all, arith}
use Rattle.std.specs.List.{AllByRecursion}

one_more : {X : Type 0} (P : X → Type 0) (xs : List X) (i : ℕ) (d : X) → i < length xs → AllByRecursion P (take i xs) → P (slice_index_or xs i d) → AllByRecursion P (take (suc i) xs)
one_more P [] i d in_range h p = absurd (omega (arith, in_range))
one_more P (x ∷ xs) zero d in_range h p = (p, tt)
one_more P (x ∷ xs) (suc i) d in_range h p = (h.0, one_more P xs i d (omega (arith, in_range)) h.1 p)

-- one item further
pub reached_more : {X : Type 0} (P : X → Type 0) (xs : List X) (i : ℕ) (d : X) → i < length xs → AllByRecursion P (take i xs) → P (slice_index_or xs i d) → AllByRecursion P (take (i + 1) xs)
reached_more P xs i d in_range h p = subst (λ n. AllByRecursion P (take n xs)) (sym (add-one i)) (one_more P xs i d in_range h p)

-- one item further, where the item is read behind a reference
pub reached_item : {X : Type 0} (P : X → Type 0) (xs : List X) (i : ℕ) (x : X) → i < length xs → AllByRecursion P (take i xs) → x ≡ slice_index_or xs i x → P x → AllByRecursion P (take (i + 1) xs)
reached_item P xs i x in_range h is p = reached_more P xs i x in_range h (subst P is p)

-- at the end
pub reached_all : {X : Type 0} (P : X → Type 0) (xs : List X) (i : ℕ) → length xs ≤ i → AllByRecursion P (take i xs) → AllByRecursion P xs
reached_all P xs i past h = subst (AllByRecursion P) (take_all i xs past) h
