-- Entries under distinct numbers, and the first that passes a test.
use Rattle.std.proofs.Common.{◌≡◌, ℕ, filter, ◌+◌, ◌<◌, Bool, true, false, cond, eqb, List, [], ◌∷◌, take, length, zero, suc, Option, Some, None, is_some, find, refl, ap, sym, ◌∙◌, arith}
use Rattle.std.specs.Prelude.{IfSome, IsSome}
use Rattle.std.proofs.lemmas.Grind.{common_steps}
use Rattle.std.proofs.lemmas.Map.Keys.{IsDistinct-tail, IsDistinct-head}
use Rattle.lru.specs.LruCache.{promoted}
use Rattle.std.specs.List.{IsDistinct, AllByRecursion}
use Rattle.std.specs.Map.{keys_of, values_of, lookup, lookup_entry, remove_entry}
use Rattle.dq_cache.specs.Entries.{put_front, to_front, without_first}
use Rattle.dq_cache.specs.Stacks.{number_in, all_below}

eqb_same : (x : ℕ) → eqb x x ≡ true
eqb_same x = grind (arith, common_steps)

eqb_flip : (x y : ℕ) → eqb x y ≡ false → eqb y x ≡ false
eqb_flip x y e = grind (arith, common_steps)

number_is : (n m : ℕ) → eqb n m ≡ true → m ≡ n
number_is n m e = grind (arith, common_steps)

module _ {T : Type 0} where
  cond_some : (b : Bool) (n : ℕ) (h : T) (x : Option ℕ) (y : Option T) → is_some x ≡ is_some y → is_some (cond b (Some n) x) ≡ is_some (cond b (Some h) y)
  cond_some true n h x y e = refl
  cond_some false n h x y e = e

  pub is_some-number_in : (test : T → Bool) (es : List (ℕ × T)) → is_some (number_in test es) ≡ is_some (find test (values_of es))
  is_some-number_in test [] = refl
  is_some-number_in test (e ∷ es) = cond_some (test e.1) e.0 e.1 _ _ (is_some-number_in test es)

  -- the entry that has the number
  pub record Picked (test : T → Bool) (n : ℕ) (es : List (ℕ × T)) : Type 0 where
    pub held : T
    pub first : find test (values_of es) ≡ Some held
    pub entry : lookup_entry (eqb n) es ≡ Some (n, held)
    pub value : lookup (eqb n) es ≡ Some held
    pub rest : values_of (remove_entry (eqb n) es) ≡ without_first test (values_of es)

  key_apart : (test : T → Bool) (k n : ℕ) (es : List (ℕ × T)) → AllByRecursion (λ y. eqb k y ≡ false) (keys_of es) → number_in test es ≡ Some n → eqb k n ≡ false
  key_apart test k n [] a h = cc
  key_apart test k n (e ∷ es) a h = (elim (test e.1) as (λ b. test e.1 ≡ b → eqb k n ≡ false) [
    | true ↦ λ t. let s : Some e.0 ≡ Some n = rw t at h in let same : e.0 ≡ n = cc in rw same at a.0
    | false ↦ λ t. key_apart test k n es a.1 (rw t at h)
  ]) refl

  pub picked : (test : T → Bool) (n : ℕ) (es : List (ℕ × T)) → IsDistinct eqb (keys_of es) → number_in test es ≡ Some n → Picked test n es
  picked test n [] d h = cc
  picked test n (e ∷ es) d h = (elim (test e.1) as (λ b. test e.1 ≡ b → Picked test n (e ∷ es)) [
    | true ↦ λ t.
        let s : Some e.0 ≡ Some n = rw t at h in
        let same : e.0 ≡ n = cc in
        let at : eqb n e.0 ≡ true = rw same (eqb_same n) in
        record { held = e.1; first = rw t refl; entry = rw at (ap (λ k. Some (k, e.1)) same); value = rw at refl; rest = rw (at, t) refl }
    | false ↦ λ t.
        let on = picked test n es (IsDistinct-tail eqb e.0 (keys_of es) d) (rw t at h) in
        let apart : eqb n e.0 ≡ false = eqb_flip e.0 n (key_apart test e.0 n es (IsDistinct-head eqb e.0 (keys_of es) d) (rw t at h)) in
        record { held = on.held; first = rw t on.first; entry = rw apart on.entry; value = rw apart on.value; rest = rw (apart, t) (ap (λ x. e.1 ∷ x) on.rest) }
  ]) refl

  pub none_picked : (test : T → Bool) (es : List (ℕ × T)) → number_in test es ≡ None → (find test (values_of es) ≡ None) × (without_first test (values_of es) ≡ values_of es)
  none_picked test [] h = (refl, refl)
  none_picked test (e ∷ es) h = (elim (test e.1) as (λ b. test e.1 ≡ b → (find test (values_of (e ∷ es)) ≡ None) × (without_first test (values_of (e ∷ es)) ≡ values_of (e ∷ es))) [
    | true ↦ λ t. let s : Some e.0 ≡ None = rw t at h in cc
    | false ↦ λ t. let on = none_picked test es (rw t at h) in (rw t on.0, rw t (ap (λ x. e.1 ∷ x) on.1))
  ]) refl

  pub below_number : (test : T → Bool) (n m : ℕ) (es : List (ℕ × T)) → all_below m es → number_in test es ≡ Some n → n < m
  below_number test n m [] a h = cc
  below_number test n m (e ∷ es) a h = (elim (test e.1) as (λ b. test e.1 ≡ b → n < m) [
    | true ↦ λ t. let s : Some e.0 ≡ Some n = rw t at h in let same : e.0 ≡ n = cc in rw (← same) a.0
    | false ↦ λ t. below_number test n m es a.1 (rw t at h)
  ]) refl

  cond_below : (m : ℕ) (b : Bool) (e : ℕ × T) (es fs : List (ℕ × T)) → e.0 < m → all_below m es → all_below m fs → all_below m (cond b es (e ∷ fs))
  cond_below m true e es fs l a c = a
  cond_below m false e es fs l a c = (l, c)

  pub below_removed : (m : ℕ) (t : ℕ → Bool) (es : List (ℕ × T)) → all_below m es → all_below m (remove_entry t es)
  below_removed m t [] a = tt
  below_removed m t (e ∷ es) a = cond_below m (t e.0) e es (remove_entry t es) a.0 a.1 (below_removed m t es a.1)

  pub below_more : (m : ℕ) (es : List (ℕ × T)) → all_below m es → all_below (m + 1) es
  below_more m [] a = tt
  below_more m (e ∷ es) a = (omega (arith, a.0), below_more m es a.1)

  pub below_taken : (m n : ℕ) (es : List (ℕ × T)) → all_below m es → all_below m (take n es)
  below_taken m zero es a = tt
  below_taken m (suc n) [] a = tt
  below_taken m (suc n) (e ∷ es) a = (a.0, below_taken m n es a.1)

  chosen_below : (m : ℕ) (b : Bool) (e : ℕ × T) (fs : List (ℕ × T)) → e.0 < m → all_below m fs → all_below m (cond b (e ∷ fs) fs)
  chosen_below m true e fs l a = (l, a)
  chosen_below m false e fs l a = a

  pub below_filtered : (m : ℕ) (p : (ℕ × T) → Bool) (es : List (ℕ × T)) → all_below m es → all_below m (filter p es)
  below_filtered m p [] a = tt
  below_filtered m p (e ∷ es) a = chosen_below m (p e) e (filter p es) a.0 (below_filtered m p es a.1)

  pub not_there : (m : ℕ) (es : List (ℕ × T)) → all_below m es → lookup_entry (eqb m) es ≡ None
  not_there m [] a = refl
  not_there m (e ∷ es) a = let apart : eqb m e.0 ≡ false = grind (arith, common_steps, a.0) in rw apart (not_there m es a.1)

  pub none_there : (m : ℕ) (es : List (ℕ × T)) → all_below m es → lookup (eqb m) es ≡ None
  none_there m [] a = refl
  none_there m (e ∷ es) a = let apart : eqb m e.0 ≡ false = grind (arith, common_steps, a.0) in rw apart (none_there m es a.1)

  -- an entry of that number
  pub entry_there : (t : ℕ → Bool) (es : List (ℕ × T)) → is_some (lookup t es) ≡ true → (e : ℕ × T) × (lookup_entry t es ≡ Some e) × (lookup t es ≡ Some e.1) × (t e.0 ≡ true)
  entry_there t [] h = let e : false ≡ true = h in cc
  entry_there t (e ∷ es) h = (elim (t e.0) as (λ b. t e.0 ≡ b → (f : ℕ × T) × (lookup_entry t (e ∷ es) ≡ Some f) × (lookup t (e ∷ es) ≡ Some f.1) × (t f.0 ≡ true)) [
    | true ↦ λ s. (e, rw s refl, rw s refl, s)
    | false ↦ λ s. let on = entry_there t es (rw s at h) in (on.0, rw s on.1, rw s on.2, on.3)
  ]) refl

  pub number_there : (n : ℕ) (es : List (ℕ × T)) → is_some (lookup (eqb n) es) ≡ true → (x : T) × (lookup_entry (eqb n) es ≡ Some (n, x)) × (lookup (eqb n) es ≡ Some x)
  number_there n es h =
      let w = entry_there (eqb n) es h in
      (w.0.1, w.1 ∙ ap (λ m. Some (m, w.0.1)) (number_is n w.0.0 w.3), w.2)

  length_values : (es : List (ℕ × T)) → length (values_of es) ≡ length es
  length_values [] = refl
  length_values (e ∷ es) = ap (λ n. suc n) (length_values es)

  -- the list after a look-up

  pub to_front_picked : (test : T → Bool) (n : ℕ) (es : List (ℕ × T)) → Picked test n es → values_of (promoted (eqb n) es) ≡ to_front test (values_of es)
  to_front_picked test n es p = rw (p.entry, p.first) (ap (λ r. p.held ∷ r) p.rest)

  pub to_front_none : (test : T → Bool) (es : List (ℕ × T)) → number_in test es ≡ None → values_of es ≡ to_front test (values_of es)
  to_front_none test es h = rw (none_picked test es h).0 refl

  pub below_promoted : (m n : ℕ) (test : T → Bool) (es : List (ℕ × T)) → all_below m es → number_in test es ≡ Some n → Picked test n es → all_below m (promoted (eqb n) es)
  below_promoted m n test es a h p = rw p.entry (below_number test n m es a h, below_removed m (eqb n) es a)

  -- the list after a put

  pub put_picked : (test : T → Bool) (n : ℕ) (x : T) (es : List (ℕ × T)) → Picked test n es → values_of ((n, x) ∷ remove_entry (eqb n) es) ≡ put_front test x (values_of es)
  put_picked test n x es p = ap (λ r. x ∷ r) p.rest

  pub put_none : (test : T → Bool) (n : ℕ) (x : T) (es : List (ℕ × T)) → number_in test es ≡ None → values_of ((n, x) ∷ es) ≡ put_front test x (values_of es)
  put_none test n x es h = ap (λ r. x ∷ r) (sym (none_picked test es h).1)

  -- a number that is found stands there, below the next

  known_case : (test : T → Bool) (es : List (ℕ × T)) (m : ℕ) → IsDistinct eqb (keys_of es) → all_below m es → (o : Option ℕ) → number_in test es ≡ o → IfSome o (λ n. IsSome (lookup (eqb n) es) × (n < m))
  known_case test es m d b None h = tt
  known_case test es m d b (Some n) h = (let p = picked test n es d h in rw p.value refl, below_number test n m es b h)

  pub number_known : (test : T → Bool) (es : List (ℕ × T)) (m : ℕ) → IsDistinct eqb (keys_of es) → all_below m es → IfSome (number_in test es) (λ n. IsSome (lookup (eqb n) es) × (n < m))
  number_known test es m d b = known_case test es m d b (number_in test es) refl
