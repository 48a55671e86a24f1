-- Different texts, sorted, are the set of them.
use Rattle.std.proofs.Common.{◌≡◌, ℕ, Bool, true, false, ◌||◌, List, [], ◌∷◌, map, refl, sym, ap, ◌∙◌, true≢false}
use Rattle.std.specs.List.{fold, list_any}
use Rattle.std.specs.Str.{bytes_eq}
use Rattle.std.specs.declared.cmp.Ordering.{Ordering}
use Rattle.std.specs.declared.cmp.Ordering.TheVariants.{Less, Equal, Greater}
use Rattle.std.proofs.lemmas.Map.Lookups.{exact_bytes}
use Rattle.dq_base.specs.Sets.{ascending, put_by, rank_by, ranked, set_of, with}
use Rattle.dq_column.specs.Stored.{AreDifferent, text_cmp}
use Rattle.dq_column.proofs.Found.{eq_itself, eq_turned, or_none}

module _ {X Y : Type 0} (f : X → Y) (cmp : Y → Y → Ordering) where
  rank_map : (r : Ordering) (x y : X) (ys more : List X) (most : List Y) → map f more ≡ most → map f (rank_by r x y ys more) ≡ rank_by r (f x) (f y) (map f ys) most
  rank_map Less x y ys more most e = refl
  rank_map Equal x y ys more most e = ap (λ zs. f y ∷ zs) e
  rank_map Greater x y ys more most e = ap (λ zs. f y ∷ zs) e

  ranked_map : (x : X) (ys : List X) → map f (ranked (λ a b. cmp (f a) (f b)) x ys) ≡ ranked cmp (f x) (map f ys)
  ranked_map x [] = refl
  ranked_map x (y ∷ ys) = rank_map (cmp (f x) (f y)) x y ys (ranked (λ a b. cmp (f a) (f b)) x ys) (ranked cmp (f x) (map f ys)) (ranked_map x ys)

  fold_map : (sorted xs : List X) → map f (fold (λ s x. ranked (λ a b. cmp (f a) (f b)) x s) sorted xs) ≡ fold (λ s y. ranked cmp y s) (map f sorted) (map f xs)
  fold_map sorted [] = refl
  fold_map sorted (x ∷ xs) = fold_map (ranked (λ a b. cmp (f a) (f b)) x sorted) xs ∙ ap (λ s. fold (λ s y. ranked cmp y s) s (map f xs)) (ranked_map x sorted)

  -- what is sorted by a part of each item gives the parts sorted
  pub ascending_map : (xs : List X) → map f (ascending (λ a b. cmp (f a) (f b)) xs) ≡ ascending cmp (map f xs)
  ascending_map xs = fold_map [] xs

swapped : (a b c : Bool) → (a || (b || c)) ≡ (b || (a || c))
swapped true true c = refl
swapped true false c = refl
swapped false true c = refl
swapped false false c = refl

any_rank : (p : List ℕ → Bool) (r : Ordering) (x y : List ℕ) (ys more : List (List ℕ)) → list_any p more ≡ (p x || list_any p ys) → list_any p (rank_by r x y ys more) ≡ (p x || list_any p (y ∷ ys))
any_rank p Less x y ys more h = refl
any_rank p Equal x y ys more h = ap (λ b. p y || b) h ∙ swapped (p y) (p x) (list_any p ys)
any_rank p Greater x y ys more h = ap (λ b. p y || b) h ∙ swapped (p y) (p x) (list_any p ys)

any_ranked : (p : List ℕ → Bool) (x : List ℕ) (ys : List (List ℕ)) → list_any p (ranked text_cmp x ys) ≡ (p x || list_any p ys)
any_ranked p x [] = refl
any_ranked p x (y ∷ ys) = any_rank p (text_cmp x y) x y ys (ranked text_cmp x ys) (any_ranked p x ys)

same_put : (r : Ordering) (x y : List ℕ) (ys : List (List ℕ)) → text_cmp x y ≡ r → bytes_eq x y ≡ false → ranked text_cmp x ys ≡ with text_cmp x ys
    → rank_by r x y ys (ranked text_cmp x ys) ≡ put_by r x y ys (with text_cmp x ys)
same_put Less x y ys e n h = refl
same_put Equal x y ys e n h = absurd (true≢false (sym (eq_itself x) ∙ ap (bytes_eq x) (exact_bytes x y e) ∙ n))
same_put Greater x y ys e n h = ap (λ zs. y ∷ zs) h

-- where a text isn't there, it is put in as into a set
ranked_with : (x : List ℕ) (ys : List (List ℕ)) → list_any (bytes_eq x) ys ≡ false → ranked text_cmp x ys ≡ with text_cmp x ys
ranked_with x [] n = refl
ranked_with x (y ∷ ys) n =
    let r = or_none (bytes_eq x y) (list_any (bytes_eq x) ys) n in
    same_put (text_cmp x y) x y ys refl r.0 (ranked_with x ys r.1)

-- none of the texts is among the sorted ones
abbrev Apart : List (List ℕ) → List (List ℕ) → Type 0
Apart sorted [] = Unit {0}
Apart sorted (t ∷ ts) = (list_any (bytes_eq t) sorted ≡ false) × Apart sorted ts

still_apart : (t : List ℕ) (sorted ts : List (List ℕ)) → Apart sorted ts → list_any (bytes_eq t) ts ≡ false → Apart (ranked text_cmp t sorted) ts
still_apart t sorted [] a n = tt
still_apart t sorted (s ∷ ts) a n =
    let r = or_none (bytes_eq t s) (list_any (bytes_eq t) ts) n in
    (any_ranked (bytes_eq s) t sorted ∙ ap (λ b. b || list_any (bytes_eq s) sorted) (eq_turned s t ∙ r.0) ∙ a.0, still_apart t sorted ts a.1 r.1)

fold_same : (sorted ts : List (List ℕ)) → Apart sorted ts → AreDifferent ts → fold (λ s t. ranked text_cmp t s) sorted ts ≡ fold (λ s t. with text_cmp t s) sorted ts
fold_same sorted [] a d = refl
fold_same sorted (t ∷ ts) a d =
    fold_same (ranked text_cmp t sorted) ts (still_apart t sorted ts a.1 d.0) d.1 ∙ ap (λ s. fold (λ s t. with text_cmp t s) s ts) (ranked_with t sorted a.0)

apart_first : (ts : List (List ℕ)) → Apart [] ts
apart_first [] = tt
apart_first (t ∷ ts) = (refl, apart_first ts)

pub ascending_set : (ts : List (List ℕ)) → AreDifferent ts → ascending text_cmp ts ≡ set_of text_cmp ts
ascending_set ts d = fold_same [] ts (apart_first ts) d
