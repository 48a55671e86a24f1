-- What the caches keep of a landed answer.
use Rattle.std.proofs.Common.{◌≡◌, ℕ, zero, suc, ◌-◌, Bool, true, false, List, [], ◌∷◌, length, map, take, refl, ap, sym, ◌∙◌}
use Rattle.std.proofs.lemmas.List.{length-map, take-map}
use Rattle.std.specs.List.{AllByRecursion}
use Rattle.std.specs.Prelude.{Option, Some, None, if◌then◌else◌}
use Rattle.dq_base.specs.declared.bound.Bound.{Bound}
use Rattle.dq_base.specs.declared.kept.Kept.{Kept as Word}
use Rattle.dq_base.specs.declared.kept.Kept.TheVariants.{Kept, Topped, TooLarge, Stale, Memory}
use Rattle.dq_cache.specs.Entries.{Answers, Leaves, is_over, put_front, trimmed, trimmed_by, weight_of, without_first, without_last}
use Rattle.dq_machine.specs.Admitting.{has_same}
use Rattle.dq_machine.specs.Landing.{may_say, shelf_landed, word_eq}
use Rattle.dq_machine.specs.State.{Flown, Shelved}

-- what a cache may answer

word_same : (word : Word) → word_eq word word ≡ true
word_same Kept = refl
word_same Topped = refl
word_same TooLarge = refl
word_same Stale = refl
word_same Memory = refl

pub may-say : (reason : Option Word) (word : Word) → Answers reason word → may_say reason word ≡ true
may-say (Some reason) word is = rw is (word_same reason)
may-say None Kept is = refl
may-say None Memory is = refl
may-say None Topped is = absurd is
may-say None TooLarge is = absurd is
may-say None Stale is = absurd is

-- every answer but Kept leaves the list as it was
pub leaves-old : {X : Type 0} (word : Word) (old kept : List X) → (word ≡ Kept → ⊥) → Leaves word old kept old
leaves-old Kept old kept other = absurd (other refl)
leaves-old Memory old kept other = refl
leaves-old Topped old kept other = refl
leaves-old TooLarge old kept other = refl
leaves-old Stale old kept other = refl

-- lists

module _ {X : Type 0} (P : X → Type 0) where
  all_either : (b : Bool) (xs ys : List X) → AllByRecursion P xs → AllByRecursion P ys → AllByRecursion P (if b then xs else ys)
  all_either true xs ys here elsewhere = here
  all_either false xs ys here elsewhere = elsewhere

  all_take : (n : ℕ) (xs : List X) → AllByRecursion P xs → AllByRecursion P (take n xs)
  all_take zero [] h = tt
  all_take zero (x ∷ xs) h = tt
  all_take (suc n) [] h = tt
  all_take (suc n) (x ∷ xs) h = (h.0, all_take n xs h.1)

  all_trimmed_by : (w : X → ℕ) (b : Bound) (n : ℕ) (xs : List X) → AllByRecursion P xs → AllByRecursion P (trimmed_by w b n xs)
  all_trimmed_by w b zero xs h = h
  all_trimmed_by w b (suc n) xs h =
      all_either (is_over b (map w xs)) (trimmed_by w b n (without_last xs)) xs (all_trimmed_by w b n (without_last xs) (all_take (length xs - 1) xs h)) h

  all_without : (p : X → Bool) (xs : List X) → AllByRecursion P xs → AllByRecursion P (without_first p xs)
  all_without p [] h = tt
  all_without p (x ∷ xs) h = all_either (p x) xs (x ∷ without_first p xs) h.1 (h.0, all_without p xs h.1)

module _ {X Y : Type 0} (f : X → Y) where
  map_last : (xs : List X) → map f (without_last xs) ≡ without_last (map f xs)
  map_last xs = sym (take-map f (length xs - 1) xs) ∙ ap (λ n. take (n - 1) (map f xs)) (sym (length-map xs f))

  map_weights : (v : Y → ℕ) (xs : List X) → map (λ x. v (f x)) xs ≡ map v (map f xs)
  map_weights v [] = refl
  map_weights v (x ∷ xs) = ap (λ ns. v (f x) ∷ ns) (map_weights v xs)

  either_map : (b : Bool) (xs ys : List X) (zs : List Y) → map f xs ≡ zs → map f (if b then xs else ys) ≡ (if b then zs else map f ys)
  either_map true xs ys zs is = is
  either_map false xs ys zs is = refl

  map_trimmed_by : (v : Y → ℕ) (b : Bound) (n : ℕ) (xs : List X) → map f (trimmed_by (λ x. v (f x)) b n xs) ≡ trimmed_by v b n (map f xs)
  map_trimmed_by v b zero xs = refl
  map_trimmed_by v b (suc n) xs =
      either_map (is_over b (map (λ x. v (f x)) xs)) (trimmed_by (λ x. v (f x)) b n (without_last xs)) xs (trimmed_by v b n (without_last (map f xs)))
      (map_trimmed_by v b n (without_last xs) ∙ ap (trimmed_by v b n) (map_last xs))
      ∙ ap (λ ns. if is_over b ns then trimmed_by v b n (without_last (map f xs)) else map f xs) (map_weights v xs)

  map_trimmed : (v : Y → ℕ) (b : Bound) (xs : List X) → map f (trimmed (λ x. v (f x)) b xs) ≡ trimmed v b (map f xs)
  map_trimmed v b xs = map_trimmed_by v b (length xs) xs ∙ ap (λ n. trimmed_by v b n (map f xs)) (sym (length-map xs f))

  either_rest : (b : Bool) (x : X) (xs rest : List X) (ys : List Y) → map f rest ≡ ys → map f (if b then xs else x ∷ rest) ≡ (if b then map f xs else f x ∷ ys)
  either_rest true x xs rest ys is = refl
  either_rest false x xs rest ys is = ap (λ zs. f x ∷ zs) is

  map_without : (P : X → Type 0) (p : X → Bool) (q : Y → Bool) → ((x : X) → P x → p x ≡ q (f x)) → (xs : List X) → AllByRecursion P xs
      → map f (without_first p xs) ≡ without_first q (map f xs)
  map_without P p q same [] h = refl
  map_without P p q same (x ∷ xs) h =
      either_rest (p x) x xs (without_first p xs) (without_first q (map f xs)) (map_without P p q same xs h.1)
      ∙ ap (λ b. if b then map f xs else f x ∷ without_first q (map f xs)) (same x h.0)

-- a landed answer is offered to a cache

module _ {X : Type 0} (f : X → Shelved) (P : X → Type 0) (test : X → Bool) (bound : Bound) (g : Flown) (cells : ℕ) (x : X)
    (front : f x ≡ record { flight = g.number; stamp = g.stamp; key = g.key; weight = weight_of cells })
    (same : (y : X) → P y → test y ≡ has_same g.stamp g.key (f y)) where
  pub shelf-landed : (word : Word) (old new : List X) → AllByRecursion P old → Leaves word old (trimmed (λ y. (f y).weight) bound (put_front test x old)) new
      → map f new ≡ shelf_landed bound g cells word (map f old)
  shelf-landed Kept old new h is =
      ap (map f) is ∙ map_trimmed f (λ e. e.weight) bound (put_front test x old)
      ∙ ap (λ e. trimmed (λ e. e.weight) bound (e ∷ map f (without_first test old))) front
      ∙ ap (λ es. trimmed (λ e. e.weight) bound (record { flight = g.number; stamp = g.stamp; key = g.key; weight = weight_of cells } ∷ es))
      (map_without f P test (has_same g.stamp g.key) same old h)
  shelf-landed Topped old new h is = ap (map f) is
  shelf-landed TooLarge old new h is = ap (map f) is
  shelf-landed Stale old new h is = ap (map f) is
  shelf-landed Memory old new h is = ap (map f) is

  pub all-landed : (word : Word) (old new : List X) → AllByRecursion P old → P x → Leaves word old (trimmed (λ y. (f y).weight) bound (put_front test x old)) new
      → AllByRecursion P new
  all-landed Kept old new h this is =
      rw is (all_trimmed_by P (λ y. (f y).weight) bound (length (put_front test x old)) (put_front test x old) (this, all_without P test old h))
  all-landed Topped old new h this is = rw is h
  all-landed TooLarge old new h this is = rw is h
  all-landed Stale old new h this is = rw is h
  all-landed Memory old new h this is = rw is h
