-- The weights of entries, added up.
use Rattle.std.proofs.Common.{◌≡◌, ℕ, zero, suc, ◌+◌, ◌-◌, ◌*◌, ◌≤◌, Bool, true, false, cond, List, [], ◌∷◌, take, length, refl, sym, ap, ◌∙◌, arith, Some, nat_le}
use Rattle.std.specs.Prelude.{slice_get}
use Rattle.std.specs.Map.{lookup, remove_entry}
use Rattle.std.proofs.lemmas.Bool.Decides.{nat_tests}
use Rattle.std.proofs.lemmas.List.Sums.{sum_by-cons}
use Rattle.dq_cover.proofs.CoverLaws.{and_both, and_left, and_right}
use Rattle.dq_cache.specs.Entries.{EntryOf, most_cells, without_last}
use Rattle.dq_cache.specs.Stacks.{total_of, are_small}

pub is_small : (n : ℕ) → nat_le n most_cells ≡ true → n ≤ most_cells
is_small n h = grind (arith, nat_tests)

pub small_is : (n : ℕ) → n ≤ most_cells → nat_le n most_cells ≡ true
small_is n h = grind (arith, nat_tests)

module _ {T : Type 0} (entry : T → EntryOf) where
  abbrev weigh : (ℕ × T) → ℕ
  weigh e = (entry e.1).weight

  pub total_cons : (e : ℕ × T) (es : List (ℕ × T)) → total_of entry (e ∷ es) ≡ (entry e.1).weight + total_of entry es
  total_cons e es = sum_by-cons weigh e es

  -- at most so much together
  pub total_small : (es : List (ℕ × T)) → are_small entry es ≡ true → total_of entry es ≤ most_cells * length es
  total_small [] s = omega arith
  total_small (e ∷ es) s =
      let first = is_small (entry e.1).weight (and_left (nat_le (entry e.1).weight most_cells) (are_small entry es) s) in
      let rest = total_small es (and_right (nat_le (entry e.1).weight most_cells) (are_small entry es) s) in
      omega (arith, total_cons e es, first, rest)

  pub small_cons : (e : ℕ × T) (es : List (ℕ × T)) → (entry e.1).weight ≤ most_cells → are_small entry es ≡ true → are_small entry (e ∷ es) ≡ true
  small_cons e es l s = and_both (nat_le (entry e.1).weight most_cells) (are_small entry es) (small_is (entry e.1).weight l) s

  small_chosen : (b : Bool) (e : ℕ × T) (es fs : List (ℕ × T)) → are_small entry (e ∷ es) ≡ true → are_small entry fs ≡ true → are_small entry (cond b es (e ∷ fs)) ≡ true
  small_chosen true e es fs a f = and_right (nat_le (entry e.1).weight most_cells) (are_small entry es) a
  small_chosen false e es fs a f = and_both (nat_le (entry e.1).weight most_cells) (are_small entry fs) (and_left (nat_le (entry e.1).weight most_cells) (are_small entry es) a) f

  pub small_removed : (t : ℕ → Bool) (es : List (ℕ × T)) → are_small entry es ≡ true → are_small entry (remove_entry t es) ≡ true
  small_removed t [] s = refl
  small_removed t (e ∷ es) s = small_chosen (t e.0) e es (remove_entry t es) s (small_removed t es (and_right (nat_le (entry e.1).weight most_cells) (are_small entry es) s))

  pub small_taken : (n : ℕ) (es : List (ℕ × T)) → are_small entry es ≡ true → are_small entry (take n es) ≡ true
  small_taken zero es s = refl
  small_taken (suc n) [] s = refl
  small_taken (suc n) (e ∷ es) s =
      and_both (nat_le (entry e.1).weight most_cells) (are_small entry (take n es)) (and_left (nat_le (entry e.1).weight most_cells) (are_small entry es) s)
      (small_taken n es (and_right (nat_le (entry e.1).weight most_cells) (are_small entry es) s))

  -- the entry of a number, and the others
  pub total_removed : (t : ℕ → Bool) (es : List (ℕ × T)) (x : T) → lookup t es ≡ Some x → total_of entry es ≡ (entry x).weight + total_of entry (remove_entry t es)
  total_removed t [] x h = cc
  total_removed t (e ∷ es) x h = (elim (t e.0) as (λ b. t e.0 ≡ b → total_of entry (e ∷ es) ≡ (entry x).weight + total_of entry (remove_entry t (e ∷ es))) [
    | true ↦ λ f.
        let o : Some e.1 ≡ Some x = rw f at h in
        let same : e.1 ≡ x = cc in
        rw f (total_cons e es ∙ ap (λ y. (entry y).weight + total_of entry es) same)
    | false ↦ λ f.
        let on = total_removed t es x (rw f at h) in
        rw f (omega (arith, total_cons e es, total_cons e (remove_entry t es), on))
  ]) refl

  -- the last, and those before it
  pub total_last : (es : List (ℕ × T)) (e : ℕ × T) → slice_get es (length es - 1) ≡ Some e → total_of entry es ≡ (entry e.1).weight + total_of entry (without_last es)
  total_last [] e h = cc
  total_last (f ∷ []) e h = let same : f ≡ e = cc in total_cons f [] ∙ ap (λ (g : ℕ × T). (entry g.1).weight + 0) same
  total_last (f ∷ g ∷ es) e h =
      let n : length (f ∷ g ∷ es) - 1 ≡ suc (length es) = omega arith in
      let m : length (g ∷ es) - 1 ≡ length es = omega arith in
      let k : suc (length (g ∷ es) - 1) ≡ suc (length es) = omega arith in
      let on = total_last (g ∷ es) e (ap (slice_get (g ∷ es)) m ∙ ap (λ i. slice_get (f ∷ g ∷ es) i) (sym n) ∙ h) in
      let t : without_last (f ∷ g ∷ es) ≡ f ∷ without_last (g ∷ es) = ap (λ i. take i (f ∷ g ∷ es)) (n ∙ sym k) in
      omega (arith, total_cons f (g ∷ es), on, total_cons f (without_last (g ∷ es)), ap (total_of entry) t)
