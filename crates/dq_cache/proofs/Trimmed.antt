-- The last is dropped as long as there is too much.
use Rattle.std.proofs.Common.{◌≡◌, ℕ, suc, ◌+◌, ◌-◌, ◌<◌, Bool, true, false, ◌||◌, cond, filter, List, [], ◌∷◌, map, take, length, refl, sym, ap, ◌∙◌, arith, nat_lt}
use Rattle.std.specs.Prelude.{if◌then◌else◌, sum}
use Rattle.std.specs.Map.{values_of}
use Rattle.std.proofs.lemmas.Bool.Decides.{nat_tests}
use Rattle.std.proofs.lemmas.List.{take-map}
use Rattle.std.proofs.lemmas.List.Sums.{sum_by-cons}
use Rattle.dq_base.specs.declared.bound.Bound.{Bound}
use Rattle.dq_base.specs.declared.bound.Bound.TheVariants.{Entries, Cells}
use Rattle.dq_cache.specs.Entries.{EntryOf, is_over, trimmed, trimmed_by, without_last}
use Rattle.dq_cache.specs.Stacks.{total_of}

not_below : (n : ℕ) → nat_lt n 0 ≡ false
not_below n = grind (arith, nat_tests)

nothing_over : (b : Bound) → is_over b [] ≡ false
nothing_over (Entries n) = not_below n
nothing_over (Cells n) = ap (λ x. x || nat_lt 4096 0) (not_below n)

shorter : {X : Type 0} (y : X) (ys : List X) → length (take (length ys) (y ∷ ys)) ≡ length ys
shorter y [] = refl
shorter y (z ∷ ys) = ap suc (shorter z ys)

short_last : {X : Type 0} (x : X) (xs : List X) → length (without_last (x ∷ xs)) ≡ length xs
short_last x xs = let n : length (x ∷ xs) - 1 ≡ length xs = omega arith in ap (λ k. length (take k (x ∷ xs))) n ∙ shorter x xs

module _ {X : Type 0} (w : X → ℕ) (b : Bound) where
  pub trimmed_over : (xs : List X) → is_over b (map w xs) ≡ true → trimmed w b xs ≡ trimmed w b (without_last xs)
  trimmed_over [] h = let n = nothing_over b in cc
  trimmed_over (x ∷ xs) h =
      ap (λ o. if o then trimmed_by w b (length xs) (without_last (x ∷ xs)) else (x ∷ xs)) h
      ∙ ap (λ n. trimmed_by w b n (without_last (x ∷ xs))) (sym (short_last x xs))

  pub trimmed_within : (xs : List X) → is_over b (map w xs) ≡ false → trimmed w b xs ≡ xs
  trimmed_within [] h = refl
  trimmed_within (x ∷ xs) h = ap (λ o. if o then trimmed_by w b (length xs) (without_last (x ∷ xs)) else (x ∷ xs)) h

sum_cons : (n : ℕ) (ns : List ℕ) → sum (n ∷ ns) ≡ n + sum ns
sum_cons n ns = sum_by-cons (λ k. k) n ns

module _ {T : Type 0} (entry : T → EntryOf) (b : Bound) where
  -- what is over its bound has a last entry
  pub over_shorter : (es : List (ℕ × T)) → is_over b (map (λ x. (entry x).weight) (values_of es)) ≡ true → length (without_last es) < length es
  over_shorter [] h = let n = nothing_over b in cc
  over_shorter (e ∷ es) h = let n = short_last e es in omega arith

module _ {T : Type 0} (entry : T → EntryOf) where
  -- the weights of the entries, one by one
  abbrev pub weights : List (ℕ × T) → List ℕ
  weights es = map (λ x. (entry x).weight) (values_of es)

  pub sum_weights : (es : List (ℕ × T)) → total_of entry es ≡ sum (weights es)
  sum_weights [] = refl
  sum_weights (e ∷ es) = sum_by-cons (λ f. (entry f.1).weight) e es ∙ ap (λ n. (entry e.1).weight + n) (sum_weights es) ∙ sym (sum_cons (entry e.1).weight (weights es))

  pub length_weights : (es : List (ℕ × T)) → length es ≡ length (weights es)
  length_weights [] = refl
  length_weights (e ∷ es) = ap suc (length_weights es)

length_values : {T : Type 0} (es : List (ℕ × T)) → length (values_of es) ≡ length es
length_values [] = refl
length_values (e ∷ es) = ap suc (length_values es)

pub values_before : {T : Type 0} (es : List (ℕ × T)) → values_of (without_last es) ≡ without_last (values_of es)
values_before es = sym (take-map (λ e. e.1) (length es - 1) es) ∙ ap (λ n. take (n - 1) (values_of es)) (sym (length_values es))

chosen_values : {T : Type 0} (b : Bool) (e : ℕ × T) (fs : List (ℕ × T)) → values_of (cond b (e ∷ fs) fs) ≡ cond b (e.1 ∷ values_of fs) (values_of fs)
chosen_values true e fs = refl
chosen_values false e fs = refl

pub values_filtered : {T : Type 0} (p : T → Bool) (es : List (ℕ × T)) → values_of (filter (λ e. p e.1) es) ≡ filter p (values_of es)
values_filtered p [] = refl
values_filtered p (e ∷ es) = chosen_values (p e.1) e (filter (λ f. p f.1) es) ∙ ap (λ xs. cond (p e.1) (e.1 ∷ xs) xs) (values_filtered p es)
