-- Going over a list from its end, each item is dropped or put at the front.
use Rattle.std.proofs.Common.{◌≡◌, ℕ, zero, suc, ◌<◌, Bool, true, false, cond, not, filter, List, [], ◌∷◌, ◌++◌, take, drop, length, refl, sym, ap, ◌∙◌, arith, append_assoc, append-nil}
use Rattle.std.specs.Prelude.{if◌then◌else◌}

module _ {X : Type 0} (keep : X → Bool) where
  -- the last items are done, the first k aren't
  abbrev pub rotated : List X → ℕ → List X
  rotated xs k = filter keep (drop k xs) ++ take k xs

  drop_all : (xs : List X) → drop (length xs) xs ≡ []
  drop_all [] = refl
  drop_all (x ∷ xs) = drop_all xs

  take_whole : (xs : List X) → take (length xs) xs ≡ xs
  take_whole [] = refl
  take_whole (x ∷ xs) = ap (λ ys. x ∷ ys) (take_whole xs)

  pub rotated_start : (xs : List X) (k : ℕ) → k ≡ length xs → xs ≡ rotated xs k
  rotated_start xs k e = sym (ap (rotated xs) e ∙ ap (λ ys. filter keep ys ++ take (length xs) xs) (drop_all xs) ∙ take_whole xs)

  pub rotated_end : (xs : List X) (k : ℕ) → k ≡ 0 → rotated xs k ≡ filter keep xs
  rotated_end xs k e = ap (rotated xs) e ∙ append-nil (filter keep xs)

  pub record IsSplit (xs : List X) (k : ℕ) : Type 0 where
    pub item : X
    pub dropped : drop k xs ≡ item ∷ drop (suc k) xs
    pub taken : take (suc k) xs ≡ take k xs ++ item ∷ []

  pub split_at : (xs : List X) (k : ℕ) → k < length xs → IsSplit xs k
  split_at [] k l = absurd (omega arith)
  split_at (x ∷ xs) zero l = record { item = x; dropped = refl; taken = refl }
  split_at (x ∷ xs) (suc k) l = let s = split_at xs k (omega arith) in record { item = s.item; dropped = s.dropped; taken = ap (λ ys. x ∷ ys) s.taken }

  pub before_turn : (xs : List X) (k : ℕ) (s : IsSplit xs k) → rotated xs (suc k) ≡ (filter keep (drop (suc k) xs) ++ take k xs) ++ s.item ∷ []
  before_turn xs k s = ap (λ ys. filter keep (drop (suc k) xs) ++ ys) s.taken ∙ sym (append_assoc (filter keep (drop (suc k) xs)) (take k xs) (s.item ∷ []))

  chosen : (b : Bool) (x : X) (ys zs : List X) → (if not b then ys ++ zs else x ∷ (ys ++ zs)) ≡ cond b (x ∷ ys) ys ++ zs
  chosen true x ys zs = refl
  chosen false x ys zs = refl

  pub after_turn : (xs : List X) (k : ℕ) (s : IsSplit xs k) → (if not (keep s.item) then (filter keep (drop (suc k) xs) ++ take k xs) else s.item ∷ (filter keep (drop (suc k) xs) ++ take k xs)) ≡ rotated xs k
  after_turn xs k s =
      chosen (keep s.item) s.item (filter keep (drop (suc k) xs)) (take k xs)
      ∙ ap (λ ys. filter keep ys ++ take k xs) (sym s.dropped)
