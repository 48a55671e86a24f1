-- Entries by a function of their keys, and one more key among them.
use Rattle.std.proofs.Common.{◌≡◌, true, false, ◌||◌, cond, List, [], ◌∷◌, refl, sym, ap, ◌∙◌, Some, None}
use Rattle.std.specs.declared.cmp.Ordering.{Ordering}
use Rattle.std.specs.declared.cmp.Ordering.TheVariants.{Less, Equal, Greater}
use Rattle.std.specs.Ordering.{is_eq, match_ordering}
use Rattle.std.specs.Cmp.{IsTotalOrder}
use Rattle.std.specs.BTreeMap.{insert_entry, is_at}
use Rattle.std.specs.Map.{lookup, set_value}
use Rattle.dq_base.specs.Sets.{with, put_by, has}
use Rattle.dq_base.proofs.SetLaws.{Ascends, Each}
use Rattle.dq_fold.specs.Folding.{entries_by}
use Rattle.dq_fold.proofs.Inserts.{above, above_equal, none_above}

module _ {K X : Type 0} (cmp : K → K → Ordering) (o : IsTotalOrder cmp) (exact : (x y : K) → cmp x y ≡ Equal → x ≡ y) (k : K) (f g : K → X) (others : (x : K) → is_eq (cmp k x) ≡ false → g x ≡ f x) where
  -- what is above k is another key
  unchanged : (ks : List K) → Each (λ y. cmp k y ≡ Less) ks → entries_by f ks ≡ entries_by g ks
  unchanged [] e = refl
  unchanged (y ∷ ks) e = ap (λ v. (y, v) ∷ entries_by f ks) (sym (others y (ap is_eq e.0))) ∙ ap (λ es. (y, g y) ∷ es) (unchanged ks e.1)

  placed : (r : Ordering) (y : K) (ks : List K) → cmp k y ≡ r → Ascends cmp (y ∷ ks)
      → insert_entry cmp (entries_by f ks) k (g k) ≡ entries_by g (with cmp k ks)
      → match_ordering r ((k, g k) ∷ (y, f y) ∷ entries_by f ks) ((y, g k) ∷ entries_by f ks) ((y, f y) ∷ insert_entry cmp (entries_by f ks) k (g k))
      ≡ entries_by g (put_by r k y ks (with cmp k ks))
  placed Less y ks e a h = ap (λ es. (k, g k) ∷ es) (unchanged (y ∷ ks) (e, above cmp o k y ks e a.0))
  placed Equal y ks e a h = ap (λ v. (y, g v) ∷ entries_by f ks) (exact k y e) ∙ ap (λ es. (y, g y) ∷ es) (unchanged ks (above_equal cmp o k y ks e a.0))
  placed Greater y ks e a h = ap (λ v. (y, v) ∷ insert_entry cmp (entries_by f ks) k (g k)) (sym (others y (ap is_eq e))) ∙ ap (λ es. (y, g y) ∷ es) h

  -- a new key: g at k, and f at the other keys
  pub insert_mapped : (ks : List K) → Ascends cmp ks → insert_entry cmp (entries_by f ks) k (g k) ≡ entries_by g (with cmp k ks)
  insert_mapped [] a = refl
  insert_mapped (y ∷ ks) a = placed (cmp k y) y ks refl a (insert_mapped ks a.1)

  changed : (r : Ordering) (y : K) (ks : List K) → cmp k y ≡ r → Ascends cmp (y ∷ ks) → (is_eq r || has cmp ks k) ≡ true
      → (has cmp ks k ≡ true → set_value (is_at (cmp k)) (entries_by f ks) (g k) ≡ entries_by g (with cmp k ks))
      → cond (is_eq r) ((y, g k) ∷ entries_by f ks) ((y, f y) ∷ set_value (is_at (cmp k)) (entries_by f ks) (g k)) ≡ entries_by g (put_by r k y ks (with cmp k ks))
  changed Less y ks e a t h = let n : has cmp ks k ≡ false = none_above cmp o k ks (above cmp o k y ks e a.0) in cc
  changed Equal y ks e a t h = ap (λ v. (y, g v) ∷ entries_by f ks) (exact k y e) ∙ ap (λ es. (y, g y) ∷ es) (unchanged ks (above_equal cmp o k y ks e a.0))
  changed Greater y ks e a t h = ap (λ v. (y, v) ∷ set_value (is_at (cmp k)) (entries_by f ks) (g k)) (sym (others y (ap is_eq e))) ∙ ap (λ es. (y, g y) ∷ es) (h t)

  -- a key that is there
  pub set_mapped : (ks : List K) → Ascends cmp ks → has cmp ks k ≡ true → set_value (is_at (cmp k)) (entries_by f ks) (g k) ≡ entries_by g (with cmp k ks)
  set_mapped [] a t = cc
  set_mapped (y ∷ ks) a t = changed (cmp k y) y ks refl a t (set_mapped ks a.1)

module _ {K X : Type 0} (cmp : K → K → Ordering) (exact : (x y : K) → cmp x y ≡ Equal → x ≡ y) (k : K) (f : K → X) where
  found : (r : Ordering) (y : K) (ks : List K) → cmp k y ≡ r → lookup (is_at (cmp k)) (entries_by f ks) ≡ cond (has cmp ks k) (Some (f k)) None
      → cond (is_eq r) (Some (f y)) (lookup (is_at (cmp k)) (entries_by f ks)) ≡ cond (is_eq r || has cmp ks k) (Some (f k)) None
  found Less y ks e h = h
  found Equal y ks e h = ap (λ x. Some (f x)) (sym (exact k y e))
  found Greater y ks e h = h

  pub lookup_mapped : (ks : List K) → lookup (is_at (cmp k)) (entries_by f ks) ≡ cond (has cmp ks k) (Some (f k)) None
  lookup_mapped [] = refl
  lookup_mapped (y ∷ ks) = found (cmp k y) y ks refl (lookup_mapped ks)
