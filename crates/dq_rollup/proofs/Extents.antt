-- Ascending lists that have the same items are equal.
use Rattle.std.proofs.Common.{◌≡◌, true, false, ◌||◌, List, [], ◌∷◌, refl, sym, ap, ◌∙◌, subst}
use Rattle.std.specs.declared.cmp.Ordering.{Ordering}
use Rattle.std.specs.declared.cmp.Ordering.TheVariants.{Less, Equal, Greater}
use Rattle.std.specs.Ordering.{is_eq, ordering_reverse}
use Rattle.std.specs.Cmp.{IsTotalOrder}
use Rattle.std.proofs.lemmas.Cmp.{tied_itself}
use Rattle.dq_base.specs.Sets.{has}
use Rattle.dq_base.proofs.SetLaws.{Ascends, Each}

module _ {X : Type 0} (cmp : X → X → Ordering) (o : IsTotalOrder cmp) (exact : (x y : X) → cmp x y ≡ Equal → x ≡ y) where
  -- what is below each item of a list isn't in it
  below_all : (x : X) (ys : List X) → Each (λ y. cmp x y ≡ Less) ys → has cmp ys x ≡ false
  below_all x [] e = refl
  below_all x (y ∷ ys) e = ap (λ r. is_eq r || has cmp ys x) e.0 ∙ below_all x ys e.1

  each_above : (x y : X) (ys : List X) → cmp x y ≡ Less → Each (λ z. cmp y z ≡ Less) ys → Each (λ z. cmp x z ≡ Less) ys
  each_above x y [] p e = tt
  each_above x y (z ∷ ys) p e = (o.trans x y z p e.0, each_above x y ys p e.1)

  has_first : (x : X) (xs : List X) → has cmp (x ∷ xs) x ≡ true
  has_first x xs = ap (λ r. is_eq r || has cmp xs x) (tied_itself o x)

  abbrev Same : List X → List X → Type 0
  Same xs ys = (x : X) → has cmp xs x ≡ has cmp ys x

  heads : (r : Ordering) (x : X) (xs : List X) (y : X) (ys : List X) → cmp x y ≡ r → Ascends cmp (x ∷ xs) → Ascends cmp (y ∷ ys) → Same (x ∷ xs) (y ∷ ys) → r ≡ Equal
  heads Less x xs y ys e a b s =
      let t : true ≡ has cmp (y ∷ ys) x = sym (has_first x xs) ∙ s x in
      let f : has cmp (y ∷ ys) x ≡ false = below_all x (y ∷ ys) (e, each_above x y ys e b.0) in
      cc
  heads Equal x xs y ys e a b s = refl
  heads Greater x xs y ys e a b s =
      let below : cmp y x ≡ Less = o.antisymm y x ∙ ap ordering_reverse e in
      let t : has cmp (x ∷ xs) y ≡ true = s y ∙ has_first y ys in
      let f : has cmp (x ∷ xs) y ≡ false = below_all y (x ∷ xs) (below, each_above y x xs below a.0) in
      cc

  tail_by : (r : Ordering) (x z : X) (xs ys : List X) → cmp z x ≡ r → Each (λ y. cmp x y ≡ Less) xs → Each (λ y. cmp x y ≡ Less) ys → (is_eq r || has cmp xs z) ≡ (is_eq r || has cmp ys z) → has cmp xs z ≡ has cmp ys z
  tail_by Less x z xs ys e a b h = h
  tail_by Equal x z xs ys e a b h = ap (has cmp xs) (exact z x e) ∙ below_all x xs a ∙ sym (below_all x ys b) ∙ ap (has cmp ys) (sym (exact z x e))
  tail_by Greater x z xs ys e a b h = h

  pub same_lists : (xs ys : List X) → Ascends cmp xs → Ascends cmp ys → Same xs ys → xs ≡ ys
  same_lists [] [] a b s = refl
  same_lists [] (y ∷ ys) a b s = let t : false ≡ true = s y ∙ has_first y ys in cc
  same_lists (x ∷ xs) [] a b s = let t : true ≡ false = sym (has_first x xs) ∙ s x in cc
  same_lists (x ∷ xs) (y ∷ ys) a b s =
      let same : x ≡ y = exact x y (heads (cmp x y) x xs y ys refl a b s) in
      let Q : X → Type 0 = λ w. Each (λ z. cmp w z ≡ Less) ys in
      let above : Each (λ z. cmp x z ≡ Less) ys = subst Q (sym same) b.0 in
      let rest : Same xs ys = λ z. tail_by (cmp z x) x z xs ys refl a.0 above (s z ∙ ap (λ w. is_eq (cmp z w) || has cmp ys z) (sym same)) in
      ap (λ w. w ∷ xs) same ∙ ap (λ ws. y ∷ ws) (same_lists xs ys a.1 b.1 rest)
