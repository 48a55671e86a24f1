-- Stacks after their calls.
use Rattle.std.proofs.Common.{◌≡◌, ℕ, suc, ◌+◌, ◌-◌, ◌^◌, ◌<◌, ◌≤◌, Bool, true, false, eqb, List, [], ◌∷◌, ◌++◌, take, length, is_some, refl, sym, ap, ◌∙◌, subst, arith, Option, Some, None}
use Rattle.std.specs.Prelude.{slice_get}
use Rattle.std.specs.Option.{option_map, option_map_or}
use Rattle.std.specs.List.{IsDistinct, AllByRecursion}
use Rattle.std.specs.Map.{keys_of, lookup, lookup_entry, remove_entry}
use Rattle.std.proofs.lemmas.List.{take_all}
use Rattle.std.proofs.lemmas.Map.Keys.{IsDistinct-tail, IsDistinct-head}
use Rattle.std.proofs.lemmas.Grind.{common_steps}
use Rattle.lru.specs.LruCache.{LruCache, lru_cache, put_entries, promoted, last_entry}
use Rattle.dq_cache.specs.Entries.{EntryOf, most_cells, without_last, is_of}
use Rattle.dq_cache.specs.Stacks.{IsStack, all_below, total_of, are_small}
use Rattle.dq_cache.proofs.Numbers.{not_there, number_there}
use Rattle.dq_cache.proofs.Totals.{total_cons, small_cons, small_removed, small_taken, total_removed, total_last, is_small}
use Rattle.dq_cover.proofs.CoverLaws.{and_left, and_right}
use Rattle.std.specs.Prelude.{nat_le}

eqb_own : (x : ℕ) → eqb x x ≡ true
eqb_own x = grind (arith, common_steps)

eqb_turned : (x y : ℕ) → eqb x y ≡ false → eqb y x ≡ false
eqb_turned x y e = grind (arith, common_steps)

module _ {T : Type 0} where
  pub added_list : (n : ℕ) (x : T) (old new : LruCache ℕ T) → old.cap ≡ 2 ^ 64 - 1 → length old.entries < 2 ^ 63 → all_below n old.entries
      → new ≡ lru_cache (put_entries eqb old n x) old.cap → new.entries ≡ (n, x) ∷ old.entries
  added_list n x old new cap len below h =
      let room : length old.entries ≤ old.cap - 1 = omega (arith, cap) in
      ap (λ (c : LruCache ℕ T). c.entries) h
      ∙ ap (λ o. option_map_or (λ e. (e.0, x) ∷ remove_entry (eqb n) old.entries) o ((n, x) ∷ take (old.cap - 1) old.entries)) (not_there n old.entries below)
      ∙ ap (λ es. (n, x) ∷ es) (take_all (old.cap - 1) old.entries room)

  pub replaced_list : (n : ℕ) (x : T) (old new : LruCache ℕ T) → is_some (lookup (eqb n) old.entries) ≡ true
      → new ≡ lru_cache (put_entries eqb old n x) old.cap → new.entries ≡ (n, x) ∷ remove_entry (eqb n) old.entries
  replaced_list n x old new there h =
      let w = number_there n old.entries there in
      ap (λ (c : LruCache ℕ T). c.entries) h
      ∙ ap (λ o. option_map_or (λ e. (e.0, x) ∷ remove_entry (eqb n) old.entries) o ((n, x) ∷ take (old.cap - 1) old.entries)) w.1

  nonempty : (xs : List (ℕ × T)) (y : ℕ × T) → 0 < length (xs ++ y ∷ [])
  nonempty [] y = omega arith
  nonempty (x ∷ xs) y = omega arith

  last_at : (es : List (ℕ × T)) (e : ℕ × T) → slice_get (es ++ e ∷ []) (length (es ++ e ∷ []) - 1) ≡ Some e
  last_at [] e = refl
  last_at (f ∷ es) e =
      let n : length (f ∷ (es ++ e ∷ [])) - 1 ≡ length (es ++ e ∷ []) = omega arith in
      let m : length (es ++ e ∷ []) ≡ suc (length (es ++ e ∷ []) - 1) = omega (arith, nonempty es e) in
      ap (slice_get (f ∷ (es ++ e ∷ []))) (n ∙ m) ∙ last_at es e

  before_last : (es : List (ℕ × T)) (e : ℕ × T) → without_last (es ++ e ∷ []) ≡ es
  before_last [] e = refl
  before_last (f ∷ es) e =
      let n : length (f ∷ (es ++ e ∷ [])) - 1 ≡ length (es ++ e ∷ []) = omega arith in
      let m : length (es ++ e ∷ []) ≡ suc (length (es ++ e ∷ []) - 1) = omega (arith, nonempty es e) in
      ap (λ k. take k (f ∷ (es ++ e ∷ []))) (n ∙ m) ∙ ap (λ fs. f ∷ fs) (before_last es e)

  pub last_is : (all es : List (ℕ × T)) (e : ℕ × T) → all ≡ es ++ e ∷ [] → last_entry all ≡ Some e
  last_is all es e h = ap last_entry h ∙ last_at es e

  pub before_is : (all es : List (ℕ × T)) (e : ℕ × T) → all ≡ es ++ e ∷ [] → without_last all ≡ es
  before_is all es e h = ap without_last h ∙ before_last es e

  apart_last : (k : ℕ) (es : List (ℕ × T)) (e : ℕ × T) → AllByRecursion (λ y. eqb k y ≡ false) (keys_of (es ++ e ∷ [])) → eqb k e.0 ≡ false
  apart_last k [] e a = a.0
  apart_last k (f ∷ es) e a = apart_last k es e a.1

  entry_last : (es : List (ℕ × T)) (e : ℕ × T) → IsDistinct eqb (keys_of (es ++ e ∷ [])) → lookup_entry (eqb e.0) (es ++ e ∷ []) ≡ Some e
  entry_last [] e d = let own = eqb_own e.0 in rw own refl
  entry_last (f ∷ es) e d =
      let apart = eqb_turned f.0 e.0 (apart_last f.0 es e (IsDistinct-head eqb f.0 (keys_of (es ++ e ∷ [])) d)) in
      rw apart (entry_last es e (IsDistinct-tail eqb f.0 (keys_of (es ++ e ∷ [])) d))

  removed_last : (es : List (ℕ × T)) (e : ℕ × T) → IsDistinct eqb (keys_of (es ++ e ∷ [])) → remove_entry (eqb e.0) (es ++ e ∷ []) ≡ es
  removed_last [] e d = let own = eqb_own e.0 in rw own refl
  removed_last (f ∷ es) e d =
      let apart = eqb_turned f.0 e.0 (apart_last f.0 es e (IsDistinct-head eqb f.0 (keys_of (es ++ e ∷ [])) d)) in
      rw apart (ap (λ fs. f ∷ fs) (removed_last es e (IsDistinct-tail eqb f.0 (keys_of (es ++ e ∷ [])) d)))

  pub turned_last : (all es : List (ℕ × T)) (e : ℕ × T) → IsDistinct eqb (keys_of all) → all ≡ es ++ e ∷ [] → promoted (eqb e.0) all ≡ e ∷ es
  turned_last all es e d h =
      let P : List (ℕ × T) → Type 0 = λ xs. IsDistinct eqb (keys_of xs) in
      let dd = subst P h d in
      ap (promoted (eqb e.0)) h
      ∙ ap (λ o. option_map_or (λ f. f ∷ remove_entry (eqb e.0) (es ++ e ∷ [])) o (es ++ e ∷ [])) (entry_last es e dd)
      ∙ ap (λ fs. e ∷ fs) (removed_last es e dd)

  found_value : (t : ℕ → Bool) (fs : List (ℕ × T)) (e : ℕ × T) → lookup_entry t fs ≡ Some e → lookup t fs ≡ Some e.1
  found_value t [] e k = cc
  found_value t (f ∷ fs) e k = (elim (t f.0) as (λ b. t f.0 ≡ b → lookup t (f ∷ fs) ≡ Some e.1) [
    | true ↦ λ q. let o : Some f ≡ Some e = rw q at k in let same : f ≡ e = cc in rw q (ap (λ (g : ℕ × T). Some g.1) same)
    | false ↦ λ q. rw q (found_value t fs e (rw q at k))
  ]) refl

module _ {T : Type 0} (entry : T → EntryOf) where
  pub added_stack : (n total : ℕ) (x : T) (old new : LruCache ℕ T) → IsStack entry old total → (entry x).weight ≤ most_cells → new.cap ≡ old.cap → new.entries ≡ (n, x) ∷ old.entries
      → IsStack entry new (total + (entry x).weight)
  added_stack n total x old new s w cap h = record {
    cap = cap ∙ s.cap;
    total_is = omega (arith, s.total_is, ap (total_of entry) h, total_cons entry (n, x) old.entries);
    small = ap (are_small entry) h ∙ small_cons entry (n, x) old.entries w s.small;
  }

  pub replaced_stack : (n total : ℕ) (x y : T) (old new : LruCache ℕ T) → IsStack entry old total → (entry x).weight ≤ most_cells → new.cap ≡ old.cap
      → lookup (eqb n) old.entries ≡ Some y → new.entries ≡ (n, x) ∷ remove_entry (eqb n) old.entries → IsStack entry new (total + (entry x).weight - (entry y).weight)
  replaced_stack n total x y old new s w cap at h = record {
    cap = cap ∙ s.cap;
    total_is = omega (arith, s.total_is, ap (total_of entry) h, total_cons entry (n, x) (remove_entry (eqb n) old.entries), total_removed entry (eqb n) old.entries y at);
    small = ap (are_small entry) h ∙ small_cons entry (n, x) (remove_entry (eqb n) old.entries) w (small_removed entry (eqb n) old.entries s.small);
  }

  pub popped_stack : (total : ℕ) (e : ℕ × T) (old new : LruCache ℕ T) → IsStack entry old total → slice_get old.entries (length old.entries - 1) ≡ Some e
      → new ≡ lru_cache (take (length old.entries - 1) old.entries) old.cap → IsStack entry new (total - (entry e.1).weight)
  popped_stack total e old new s at h =
      let es : new.entries ≡ without_last old.entries = ap (λ (c : LruCache ℕ T). c.entries) h in
      record {
        cap = ap (λ (c : LruCache ℕ T). c.cap) h ∙ s.cap;
        total_is = omega (arith, s.total_is, ap (total_of entry) es, total_last entry old.entries e at);
        small = ap (are_small entry) es ∙ small_taken entry (length old.entries - 1) old.entries s.small;
      }

  -- the last entry taken out, or put at the front
  small_found : (t : ℕ → Bool) (fs : List (ℕ × T)) (e : ℕ × T) → are_small entry fs ≡ true → lookup_entry t fs ≡ Some e → (entry e.1).weight ≤ most_cells
  small_found t [] e s k = cc
  small_found t (f ∷ fs) e s k = (elim (t f.0) as (λ b. t f.0 ≡ b → (entry e.1).weight ≤ most_cells) [
    | true ↦ λ q.
        let o : Some f ≡ Some e = rw q at k in
        let same : f ≡ e = cc in
        let P : (ℕ × T) → Type 0 = λ g. (entry g.1).weight ≤ most_cells in
        subst P same (is_small (entry f.1).weight (and_left (nat_le (entry f.1).weight most_cells) (are_small entry fs) s))
    | false ↦ λ q. small_found t fs e (and_right (nat_le (entry f.1).weight most_cells) (are_small entry fs) s) (rw q at k)
  ]) refl

  promoted_case : (t : ℕ → Bool) (es : List (ℕ × T)) (o : Option (ℕ × T)) → lookup_entry t es ≡ o
      → (total_of entry (option_map_or (λ e. e ∷ remove_entry t es) o es) ≡ total_of entry es)
      × (are_small entry es ≡ true → are_small entry (option_map_or (λ e. e ∷ remove_entry t es) o es) ≡ true)
  promoted_case t es None h = (refl, λ s. s)
  promoted_case t es (Some e) h =
      let at : lookup t es ≡ Some e.1 = found_value t es e h in (
        total_cons entry e (remove_entry t es) ∙ sym (total_removed entry t es e.1 at),
        λ s. small_cons entry e (remove_entry t es) (small_found t es e s h) (small_removed entry t es s),
      )

  -- a promotion changes the order alone
  pub promoted_stack : (t : ℕ → Bool) (total : ℕ) (old new : LruCache ℕ T) → IsStack entry old total → new ≡ lru_cache (promoted t old.entries) old.cap → IsStack entry new total
  promoted_stack t total old new s h =
      let es : new.entries ≡ promoted t old.entries = ap (λ (c : LruCache ℕ T). c.entries) h in
      let p = promoted_case t old.entries (lookup_entry t old.entries) refl in
      record {
        cap = ap (λ (c : LruCache ℕ T). c.cap) h ∙ s.cap;
        total_is = s.total_is ∙ sym p.0 ∙ ap (total_of entry) (sym es);
        small = ap (are_small entry) es ∙ p.1 s.small;
      }

  -- what is told of the last entry
  pub told_of_last : (number source : ℕ) (dropped : Bool) (all es : List (ℕ × T)) (e : ℕ × T)
      → ◌≡◌ {A = Option (ℕ × Bool)} (Some (number, dropped)) (option_map (λ f. (f.0, is_of source (entry f.1))) (last_entry all)) → all ≡ es ++ e ∷ [] → (number ≡ e.0) × (dropped ≡ is_of source (entry e.1))
  told_of_last number source dropped all es e h s =
      let u : ℕ × Bool = (number, dropped) in
      let v : ℕ × Bool = (e.0, is_of source (entry e.1)) in
      let f : (ℕ × T) → (ℕ × Bool) = λ x. (x.0, is_of source (entry x.1)) in
      let o : Some u ≡ Some v = h ∙ ap (option_map f) (last_is all es e s) in
      let p : u ≡ v = cc in
      (ap (λ (q : ℕ × Bool). q.0) p, ap (λ (q : ℕ × Bool). q.1) p)

  pub taken_stack : (n total : ℕ) (x : T) (old new : LruCache ℕ T) → IsStack entry old total → lookup (eqb n) old.entries ≡ Some x
      → new ≡ lru_cache (remove_entry (eqb n) old.entries) old.cap → IsStack entry new (total - (entry x).weight)
  taken_stack n total x old new s l h =
      let es : new.entries ≡ remove_entry (eqb n) old.entries = ap (λ (c : LruCache ℕ T). c.entries) h in
      record {
        cap = ap (λ (c : LruCache ℕ T). c.cap) h ∙ s.cap;
        total_is = omega (arith, s.total_is, ap (total_of entry) es, total_removed entry (eqb n) old.entries x l);
        small = ap (are_small entry) es ∙ small_removed entry (eqb n) old.entries s.small;
      }
