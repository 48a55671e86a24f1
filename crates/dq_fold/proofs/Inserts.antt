-- Sets of std are ascending lists.
use Rattle.std.proofs.Common.{◌≡◌, true, false, ◌||◌, List, [], ◌∷◌, refl, ap, ◌∙◌}
use Rattle.std.specs.List.{AllByRecursion}
use Rattle.std.specs.List.Sorted.{IsStrictlySortedBy}
use Rattle.std.specs.declared.cmp.Ordering.{Ordering}
use Rattle.std.specs.declared.cmp.Ordering.TheVariants.{Less, Equal, Greater}
use Rattle.std.specs.Ordering.{is_eq, match_ordering}
use Rattle.std.specs.Cmp.{IsTotalOrder}
use Rattle.std.specs.BTreeSet.{insert_key}
use Rattle.dq_base.specs.Sets.{with, put_by, has}
use Rattle.dq_base.proofs.SetLaws.{Ascends, Each}

insert_placed : {X : Type 0} (r : Ordering) (k x : X) (xs more : List X) → match_ordering r (k ∷ x ∷ xs) (x ∷ xs) (x ∷ more) ≡ put_by r k x xs more
insert_placed Less k x xs more = refl
insert_placed Equal k x xs more = refl
insert_placed Greater k x xs more = refl

pub insert_is_with : {X : Type 0} (cmp : X → X → Ordering) (k : X) (ks : List X) → insert_key cmp ks k ≡ with cmp k ks
insert_is_with cmp k [] = refl
insert_is_with cmp k (x ∷ xs) =
    ap (λ zs. match_ordering (cmp k x) (k ∷ x ∷ xs) (x ∷ xs) (x ∷ zs)) (insert_is_with cmp k xs) ∙ insert_placed (cmp k x) k x xs (with cmp k xs)

each_from : {X : Type 0} (P : X → Type 0) (xs : List X) → AllByRecursion P xs → Each P xs
each_from P [] a = tt
each_from P (x ∷ xs) a = (a.0, each_from P xs a.1)

pub ascends_from : {X : Type 0} (cmp : X → X → Ordering) (ks : List X) → IsStrictlySortedBy cmp ks → Ascends cmp ks
unfolding IsStrictlySortedBy
ascends_from cmp [] s = tt
ascends_from cmp (x ∷ xs) s = (each_from (λ y. cmp x y ≡ Less) xs s.0, ascends_from cmp xs s.1)

module _ {X : Type 0} (cmp : X → X → Ordering) (o : IsTotalOrder cmp) (k : X) where
  pub above : (y : X) (ks : List X) → cmp k y ≡ Less → Each (λ z. cmp y z ≡ Less) ks → Each (λ z. cmp k z ≡ Less) ks
  above y [] p e = tt
  above y (z ∷ ks) p e = (o.trans k y z p e.0, above y ks p e.1)

  pub above_equal : (y : X) (ks : List X) → cmp k y ≡ Equal → Each (λ z. cmp y z ≡ Less) ks → Each (λ z. cmp k z ≡ Less) ks
  above_equal y [] p e = tt
  above_equal y (z ∷ ks) p e = (o.congr k y z p ∙ e.0, above_equal y ks p e.1)

  -- what is below all is none of them
  pub none_above : (ks : List X) → Each (λ z. cmp k z ≡ Less) ks → has cmp ks k ≡ false
  none_above [] e = refl
  none_above (y ∷ ks) e = ap (λ r. is_eq r || has cmp ks k) e.0 ∙ none_above ks e.1

  there : (r : Ordering) (y : X) (ks : List X) → cmp k y ≡ r → Ascends cmp (y ∷ ks) → (is_eq r || has cmp ks k) ≡ true
      → (has cmp ks k ≡ true → with cmp k ks ≡ ks) → put_by r k y ks (with cmp k ks) ≡ y ∷ ks
  there Less y ks e a h more = let n : has cmp ks k ≡ false = none_above ks (above y ks e a.0) in cc
  there Equal y ks e a h more = refl
  there Greater y ks e a h more = ap (λ zs. y ∷ zs) (more h)

  -- an item that is there changes nothing
  pub with_there : (ks : List X) → Ascends cmp ks → has cmp ks k ≡ true → with cmp k ks ≡ ks
  with_there [] a h = cc
  with_there (y ∷ ks) a h = there (cmp k y) y ks refl a h (with_there ks a.1)
