-- Sets, and the items of another set in them.
use Rattle.std.proofs.Common.{◌≡◌, List, [], ◌∷◌, ◌++◌, refl, sym, ap, ◌∙◌}
use Rattle.std.specs.List.{fold}
use Rattle.std.specs.declared.cmp.Ordering.{Ordering}
use Rattle.std.specs.declared.cmp.Ordering.TheVariants.{Less, Equal, Greater}
use Rattle.std.specs.Ordering.{ordering_reverse}
use Rattle.std.specs.Cmp.{IsTotalOrder}
use Rattle.std.proofs.lemmas.Cmp.{tied_itself}
use Rattle.std.proofs.lemmas.List.Sums.{fold-append}
use Rattle.dq_base.specs.Sets.{with, put_by, set_of}

-- a list, and each of some items in it
abbrev pub with_each : {X : Type 0} → (X → X → Ordering) → List X → List X → List X
with_each cmp set xs = fold (λ s x. with cmp x s) set xs

module _ {X : Type 0} (cmp : X → X → Ordering) (o : IsTotalOrder cmp) (exact : (x y : X) → cmp x y ≡ Equal → x ≡ y) where
  again_put : (r : Ordering) (x y : X) (ys : List X) → cmp x y ≡ r → with cmp x (with cmp x ys) ≡ with cmp x ys
      → with cmp x (put_by r x y ys (with cmp x ys)) ≡ put_by r x y ys (with cmp x ys)
  again_put Less x y ys e h = ap (λ r. put_by r x x (y ∷ ys) (with cmp x (y ∷ ys))) (tied_itself o x)
  again_put Equal x y ys e h = ap (λ r. put_by r x y ys (with cmp x ys)) e
  again_put Greater x y ys e h = ap (λ r. put_by r x y (with cmp x ys) (with cmp x (with cmp x ys))) e ∙ ap (λ zs. y ∷ zs) h

  again : (x : X) (ys : List X) → with cmp x (with cmp x ys) ≡ with cmp x ys
  again x [] = ap (λ r. put_by r x x [] (x ∷ [])) (tied_itself o x)
  again x (y ∷ ys) = again_put (cmp x y) x y ys refl (again x ys)

  fronted : (r : Ordering) (x y : X) (zs : List X) → cmp x y ≡ r → put_by r x y zs (x ∷ zs) ≡ put_by (ordering_reverse r) y x zs (y ∷ zs)
  fronted Less x y zs e = refl
  fronted Equal x y zs e = ap (λ w. w ∷ zs) (sym (exact x y e))
  fronted Greater x y zs e = refl

  both_first : (x y : X) (zs : List X) → put_by (cmp x y) x y zs (x ∷ zs) ≡ put_by (cmp y x) y x zs (y ∷ zs)
  both_first x y zs = fronted (cmp x y) x y zs refl ∙ ap (λ r. put_by r y x zs (y ∷ zs)) (sym (o.antisymm y x))

  turned : (x y : X) → cmp x y ≡ Less → cmp y x ≡ Greater
  turned x y e = o.antisymm y x ∙ ap ordering_reverse e

  first_equal : (x y z : X) (zs : List X) → cmp x z ≡ Less → cmp y z ≡ Equal → with cmp x (z ∷ zs) ≡ with cmp y (x ∷ z ∷ zs)
  first_equal x y z zs ex ey =
      ap (λ r. put_by r x z zs (with cmp x zs)) ex
      ∙ ap (λ r. x ∷ put_by r y z zs (with cmp y zs)) (sym ey)
      ∙ ap (λ r. put_by r y x (z ∷ zs) (with cmp y (z ∷ zs))) (sym (o.congr y z x ey ∙ turned x z ex))

  first_greater : (x y z : X) (zs : List X) → cmp x z ≡ Less → cmp y z ≡ Greater → with cmp x (z ∷ with cmp y zs) ≡ with cmp y (x ∷ z ∷ zs)
  first_greater x y z zs ex ey =
      ap (λ r. put_by r x z (with cmp y zs) (with cmp x (with cmp y zs))) ex
      ∙ ap (λ r. x ∷ put_by r y z zs (with cmp y zs)) (sym ey)
      ∙ ap (λ r. put_by r y x (z ∷ zs) (with cmp y (z ∷ zs))) (sym (turned x y (o.trans x z y ex (o.antisymm z y ∙ ap ordering_reverse ey))))

  behind_equal : (x y z : X) (zs : List X) → cmp x z ≡ Equal → cmp y z ≡ Greater → with cmp x (z ∷ with cmp y zs) ≡ with cmp y (z ∷ zs)
  behind_equal x y z zs ex ey =
      ap (λ r. put_by r x z (with cmp y zs) (with cmp x (with cmp y zs))) ex ∙ ap (λ r. put_by r y z zs (with cmp y zs)) (sym ey)

  swapped_put : (r s : Ordering) (x y z : X) (zs : List X) → cmp x z ≡ r → cmp y z ≡ s → with cmp x (with cmp y zs) ≡ with cmp y (with cmp x zs)
      → with cmp x (put_by s y z zs (with cmp y zs)) ≡ with cmp y (put_by r x z zs (with cmp x zs))
  swapped_put Less Less x y z zs ex ey h =
      ap (λ r. put_by (cmp x y) x y (z ∷ zs) (put_by r x z zs (with cmp x zs))) ex
      ∙ both_first x y (z ∷ zs)
      ∙ ap (λ r. put_by (cmp y x) y x (z ∷ zs) (put_by r y z zs (with cmp y zs))) (sym ey)
  swapped_put Less Equal x y z zs ex ey h = first_equal x y z zs ex ey
  swapped_put Less Greater x y z zs ex ey h = first_greater x y z zs ex ey
  swapped_put Equal Less x y z zs ex ey h = sym (first_equal y x z zs ey ex)
  swapped_put Equal Equal x y z zs ex ey h = ap (λ r. put_by r x z zs (with cmp x zs)) ex ∙ ap (λ r. put_by r y z zs (with cmp y zs)) (sym ey)
  swapped_put Equal Greater x y z zs ex ey h = behind_equal x y z zs ex ey
  swapped_put Greater Less x y z zs ex ey h = sym (first_greater y x z zs ey ex)
  swapped_put Greater Equal x y z zs ex ey h = sym (behind_equal y x z zs ey ex)
  swapped_put Greater Greater x y z zs ex ey h =
      ap (λ r. put_by r x z (with cmp y zs) (with cmp x (with cmp y zs))) ex
      ∙ ap (λ ws. z ∷ ws) h
      ∙ ap (λ r. put_by r y z (with cmp x zs) (with cmp y (with cmp x zs))) (sym ey)

  -- the order in which two items come doesn't matter
  swapped : (x y : X) (zs : List X) → with cmp x (with cmp y zs) ≡ with cmp y (with cmp x zs)
  swapped x y [] = both_first x y []
  swapped x y (z ∷ zs) = swapped_put (cmp x z) (cmp y z) x y z zs refl refl (swapped x y zs)

  with_later : (y : X) (set ts : List X) → with cmp y (with_each cmp set ts) ≡ with_each cmp (with cmp y set) ts
  with_later y set [] = refl
  with_later y set (t ∷ ts) = with_later y (with cmp t set) ts ∙ ap (λ s. with_each cmp s ts) (swapped y t set)

  one_put : (r : Ordering) (y t : X) (ts set : List X) → cmp y t ≡ r → ((s : List X) → with_each cmp s (with cmp y ts) ≡ with cmp y (with_each cmp s ts))
      → with_each cmp set (put_by r y t ts (with cmp y ts)) ≡ with cmp y (with_each cmp (with cmp t set) ts)
  one_put Less y t ts set e h = ap (λ s. with_each cmp s ts) (swapped t y set) ∙ sym (with_later y (with cmp t set) ts)
  one_put Equal y t ts set e h =
      ap (λ s. with_each cmp s ts) (sym (again t set))
      ∙ sym (with_later t (with cmp t set) ts)
      ∙ ap (λ w. with cmp w (with_each cmp (with cmp t set) ts)) (sym (exact y t e))
  one_put Greater y t ts set e h = h (with cmp t set)

  with_each_one : (y : X) (ts set : List X) → with_each cmp set (with cmp y ts) ≡ with cmp y (with_each cmp set ts)
  with_each_one y [] set = refl
  with_each_one y (t ∷ ts) set = one_put (cmp y t) y t ts set refl (with_each_one y ts)

  with_each_twice : (ys set ts : List X) → with_each cmp set (with_each cmp ts ys) ≡ with_each cmp (with_each cmp set ts) ys
  with_each_twice [] set ts = refl
  with_each_twice (y ∷ ys) set ts = with_each_twice ys set (with cmp y ts) ∙ ap (λ s. with_each cmp s ys) (with_each_one y ts set)

  -- the set of two lists is the one's, and each item of the other's in it
  pub set_of_append : (xs ys : List X) → set_of cmp (xs ++ ys) ≡ with_each cmp (set_of cmp xs) (set_of cmp ys)
  set_of_append xs ys = fold-append (λ s x. with cmp x s) [] xs ys ∙ sym (with_each_twice ys (set_of cmp xs) [])
