-- A test within another holds of no more, and a covered query keeps no more.
use Rattle.std.proofs.Common.{◌≡◌, ℤ, Bool, true, false, not, ◌||◌, ◌&&◌, List, [], ◌∷◌, inl, inr, refl, sym, ap, ◌∙◌, Option, Some, None, nat_eq, arith}
use Rattle.std.specs.List.{list_any, list_all}
use Rattle.std.specs.declared.cmp.Ordering.{Ordering}
use Rattle.std.specs.declared.cmp.Ordering.TheVariants.{Less, Equal, Greater}
use Rattle.std.specs.Ordering.{is_eq}
use Rattle.std.proofs.lemmas.Int.{ints}
use Rattle.dq_base.specs.Covering.{checkable, groups_by, high_within, implied, low_within, predicate_eq, within}
use Rattle.dq_base.specs.Filters.{from_low, holds, keeps, lies_between, to_high, value_at}
use Rattle.dq_base.specs.Orders.{value_cmp}
use Rattle.dq_base.specs.Sets.{all_in, has}
use Rattle.dq_base.proofs.Exact.{exact_values}
use Rattle.dq_base.specs.declared.value.Value.{Value}
use Rattle.dq_base.specs.declared.value.Value.TheVariants as value
use Rattle.dq_base.specs.declared.predicate.Test.{Test}
use Rattle.dq_base.specs.declared.predicate.Test.TheVariants.{Among, Except, Between}
use Rattle.dq_base.specs.declared.predicate.Predicate.{Predicate}
use Rattle.dq_base.specs.declared.query.Query.{Query}
use Rattle.dq_cover.proofs.CoverLaws.{all_at, all_weaker, and_both, and_left, and_right, any_at, exact_numbers, exact_predicate_eq, not_both, not_by, or_cases, or_right}

-- some item has both
all_any : {X : Type 0} (p q : X → Bool) (xs : List X) → list_all p xs ≡ true → list_any q xs ≡ true → (x : X) × (p x ≡ true) × (q x ≡ true)
all_any p q [] a e = cc
all_any p q (x ∷ xs) a e = elim (or_cases (q x) (list_any q xs) e) [ inl h ↦ (x, and_left (p x) (list_all p xs) a, h) | inr h ↦ all_any p q xs (and_right (p x) (list_all p xs) a) h ]

equal_from : (o : Ordering) → is_eq o ≡ true → o ≡ Equal
equal_from Less e = cc
equal_from Equal e = refl
equal_from Greater e = cc

abbrev value_eq : Value → Value → Bool
value_eq x y = is_eq (value_cmp x y)

exact_value_eq : (x y : Value) → value_eq x y ≡ true → x ≡ y
exact_value_eq x y e = exact_values x y (equal_from (value_cmp x y) e)

has_on : (a b : List Value) (v : Value) → all_in value_cmp a b ≡ true → has value_cmp a v ≡ true → has value_cmp b v ≡ true
has_on a b v s h = all_at value_eq exact_value_eq (has value_cmp b) a v s h

from_within : (low outer : Option ℤ) (n : ℤ) → low_within low outer ≡ true → from_low low n ≡ true → from_low outer n ≡ true
from_within low None n p h = refl
from_within None (Some outer) n p h = cc
from_within (Some low) (Some outer) n p h = grind (arith, ints)

to_within : (high outer : Option ℤ) (n : ℤ) → high_within high outer ≡ true → to_high high n ≡ true → to_high outer n ≡ true
to_within high None n p h = refl
to_within None (Some outer) n p h = cc
to_within (Some high) (Some outer) n p h = grind (arith, ints)

between_within : (l1 h1 l2 h2 : Option ℤ) (v : Value) → low_within l1 l2 ≡ true → high_within h1 h2 ≡ true → lies_between l1 h1 v ≡ true → lies_between l2 h2 v ≡ true
between_within l1 h1 l2 h2 value.Null p q e = cc
between_within l1 h1 l2 h2 (value.Int n) p q e = and_both (from_low l2 n) (to_high h2 n) (from_within l1 l2 n p (and_left (from_low l1 n) (to_high h1 n) e)) (to_within h1 h2 n q (and_right (from_low l1 n) (to_high h1 n) e))
between_within l1 h1 l2 h2 (value.Word t) p q e = cc

pub within_sound : (a b : Test) (v : Value) → within a b ≡ true → holds a v ≡ true → holds b v ≡ true
within_sound (Among a) (Among b) v w h = has_on a b v w h
within_sound (Among a) (Except b) v w h = not_by (has value_cmp b v) (λ g. not_both (list_any (has value_cmp b) a) w (any_at value_eq exact_value_eq (has value_cmp b) a v h g))
within_sound (Among a) (Between low high) v w h = all_at value_eq exact_value_eq (lies_between low high) a v w h
within_sound (Except a) (Among b) v w h = cc
within_sound (Except a) (Except b) v w h = not_by (has value_cmp b v) (λ g. not_both (has value_cmp a v) h (has_on b a v w g))
within_sound (Except a) (Between low high) v w h = cc
within_sound (Between low high) (Among b) v w h = cc
within_sound (Between low high) (Except b) v w h = not_by (has value_cmp b v) (λ g. not_both (list_any (lies_between low high) b) w (any_at value_eq exact_value_eq (lies_between low high) b v g h))
within_sound (Between l1 h1) (Between l2 h2) v w h = between_within l1 h1 l2 h2 v (and_left _ _ w) (and_right _ _ w) h

abbrev pub holds_of : List Value → Predicate → Bool
holds_of row f = holds f.test (value_at row f.column)

-- the test holds, if it can be decided by the key
abbrev pub checked : Query → List Value → Predicate → Bool
checked p row f = not (groups_by p f.column) || holds_of row f

all_two : {X : Type 0} (a b c : X → Bool) → ((x : X) → a x ≡ true → b x ≡ true → c x ≡ true) → (xs : List X) → list_all a xs ≡ true → list_all b xs ≡ true → list_all c xs ≡ true
all_two a b c h [] e f = refl
all_two a b c h (x ∷ xs) e f = and_both (c x) (list_all c xs) (h x (and_left (a x) _ e) (and_left (b x) _ f)) (all_two a b c h xs (and_right (a x) _ e) (and_right (b x) _ f))

both_ways : (a b : Bool) → (a ≡ true → b ≡ true) → (b ≡ true → a ≡ true) → a ≡ b
both_ways true b f g = sym (f refl)
both_ways false true f g = g refl
both_ways false false f g = refl

needed : (b c : Bool) → b ≡ true → (not b || c) ≡ true → c ≡ true
needed true c e h = h
needed false c e h = cc

module _ (p q : Query) (row : List Value) (filters : list_all (implied q) p.filters ≡ true) (checks : list_all (checkable p) q.filters ≡ true) where
  implied_holds : keeps q row ≡ true → (f : Predicate) → implied q f ≡ true → holds_of row f ≡ true
  implied_holds h f i =
      let s = all_any (holds_of row) (λ g. nat_eq g.column f.column && within g.test f.test) q.filters h i in
      within_sound s.0.test f.test (value_at row f.column) (and_right _ _ s.2)
      (sym (ap (λ n. holds s.0.test (value_at row n)) (exact_numbers s.0.column f.column (and_left _ _ s.2))) ∙ s.1)

  keeps_both : keeps q row ≡ true → (keeps p row && list_all (checked p row) q.filters) ≡ true
  keeps_both h =
      and_both (keeps p row) (list_all (checked p row) q.filters)
      (all_weaker (implied q) (holds_of row) (implied_holds h) p.filters filters)
      (all_weaker (holds_of row) (checked p row) (λ f g. or_right (not (groups_by p f.column)) (holds_of row f) g) q.filters h)

  decided : keeps p row ≡ true → (g : Predicate) → checkable p g ≡ true → checked p row g ≡ true → holds_of row g ≡ true
  decided k g c h =
      elim (or_cases (list_any (predicate_eq g) p.filters) (groups_by p g.column) c) [
        | inl a ↦ all_at predicate_eq exact_predicate_eq (holds_of row) p.filters g k a
        | inr a ↦ needed (groups_by p g.column) (holds_of row g) a h
      ]

  keeps_from : (keeps p row && list_all (checked p row) q.filters) ≡ true → keeps q row ≡ true
  keeps_from h = all_two (checkable p) (checked p row) (holds_of row) (decided (and_left (keeps p row) _ h)) q.filters checks (and_right (keeps p row) _ h)

  -- a row is kept by q where p keeps it and the tests that the key decides hold
  pub keeps_split : keeps q row ≡ (keeps p row && list_all (checked p row) q.filters)
  keeps_split = both_ways (keeps q row) (keeps p row && list_all (checked p row) q.filters) keeps_both keeps_from
