-- Covering is transitive.
use Rattle.std.proofs.Common.{◌≡◌, ℕ, ℤ, Bool, true, false, not, ◌||◌, ◌&&◌, List, [], ◌∷◌, ◌⊎◌, inl, inr, refl, sym, ap, ◌∙◌, subst, Option, Some, None, nat_eq, ◌%◌, suc, zero, arith}
use Rattle.std.specs.Prelude.{is_none}
use Rattle.std.specs.List.{list_any, list_all}
use Rattle.std.specs.declared.cmp.Ordering.{Ordering}
use Rattle.std.specs.declared.cmp.Ordering.TheVariants.{Less, Equal, Greater}
use Rattle.std.specs.Ordering.{is_eq}
use Rattle.std.proofs.lemmas.Int.{ints}
use Rattle.std.proofs.lemmas.Bool.Decides.{nat_tests}
use Rattle.std.proofs.lemmas.Nat.Gcd.{dvd_of_mod-eq-zero, dvd_trans, mod-eq-zero_of_dvd}
use Rattle.std.proofs.Math.Nat.{eq-one_of_dvd-one, mod_self}
use Prim.Native.Nat.{◌∣◌}
use Rattle.dq_base.specs.Dims.{Dimension, dim_eq, is_plain, width_of}
use Rattle.dq_base.specs.Orders.{value_cmp}
use Rattle.dq_base.specs.Sets.{has, all_in}
use Rattle.dq_base.specs.Filters.{lies_between, from_low, to_high}
use Rattle.dq_base.specs.Canonical.{predicate_cmp}
use Rattle.dq_base.specs.Covering.{within, covers, low_within, high_within, needs, gives, shows, groups_by, made_of, makes, all_in_dims, same_dims, implied, checkable, predicate_eq, measure_eq, order_eq, top_eq, bool_eq, lists_eq, query_eq, Part, TheRows, Filled, Total, Least, Greatest, Different}
use Rattle.dq_base.specs.ValueOrder.{value_cmp_total}
use Rattle.dq_base.specs.PredicateOrder.{predicate_cmp_total}
use Rattle.std.proofs.lemmas.Cmp.{eq_by_cmp_equiv}
use Rattle.dq_base.proofs.Exact.{exact_values, exact_predicates}
use Rattle.dq_base.specs.declared.value.Value.{Value}
use Rattle.dq_base.specs.declared.value.Value.TheVariants as value
use Rattle.dq_base.specs.declared.predicate.Test.{Test}
use Rattle.dq_base.specs.declared.predicate.Test.TheVariants.{Among, Except, Between}
use Rattle.dq_base.specs.declared.predicate.Predicate.{Predicate}
use Rattle.dq_base.specs.declared.query.Measure.{Measure}
use Rattle.dq_base.specs.declared.query.Measure.TheVariants.{Rows, Count, Sum, Min, Max, Distinct, Avg}
use Rattle.dq_base.specs.declared.query.OrderKey.{OrderKey}
use Rattle.dq_base.specs.declared.query.Query.{Query}

pub and_left : (a b : Bool) → (a && b) ≡ true → a ≡ true
and_left true b e = refl
and_left false b e = e

pub and_right : (a b : Bool) → (a && b) ≡ true → b ≡ true
and_right true b e = e
and_right false b e = cc

pub and_both : (a b : Bool) → a ≡ true → b ≡ true → (a && b) ≡ true
and_both true b p q = q
and_both false b p q = p

pub or_cases : (a b : Bool) → (a || b) ≡ true → (a ≡ true) ⊎ (b ≡ true)
or_cases true b e = inl refl
or_cases false b e = inr e

pub or_left : (a b : Bool) → a ≡ true → (a || b) ≡ true
or_left true b e = refl
or_left false b e = cc

pub or_right : (a b : Bool) → b ≡ true → (a || b) ≡ true
or_right true b e = refl
or_right false b e = e

pub not_by : (a : Bool) → (a ≡ true → ⊥) → not a ≡ true
not_by true h = absurd (h refl)
not_by false h = refl

pub not_both : (a : Bool) → not a ≡ true → a ≡ true → ⊥
not_both true p q = cc
not_both false p q = cc

pub all_weaker : {X : Type 0} (p q : X → Bool) → ((x : X) → p x ≡ true → q x ≡ true) → (xs : List X) → list_all p xs ≡ true → list_all q xs ≡ true
all_weaker p q h [] e = refl
all_weaker p q h (x ∷ xs) e = and_both (q x) (list_all q xs) (h x (and_left (p x) (list_all p xs) e)) (all_weaker p q h xs (and_right (p x) (list_all p xs) e))

pub any_weaker : {X : Type 0} (p q : X → Bool) → ((x : X) → p x ≡ true → q x ≡ true) → (xs : List X) → list_any p xs ≡ true → list_any q xs ≡ true
any_weaker p q h [] e = e
any_weaker p q h (x ∷ xs) e = elim (or_cases (p x) (list_any p xs) e) [ inl a ↦ or_left (q x) (list_any q xs) (h x a) | inr b ↦ or_right (q x) (list_any q xs) (any_weaker p q h xs b) ]

-- some item has both
all_any : {X : Type 0} (p q : X → Bool) (xs : List X) → list_all p xs ≡ true → list_any q xs ≡ true → (x : X) × (p x ≡ true) × (q x ≡ true)
all_any p q [] a e = cc
all_any p q (x ∷ xs) a e = elim (or_cases (q x) (list_any q xs) e) [ inl h ↦ (x, and_left (p x) (list_all p xs) a, h) | inr h ↦ all_any p q xs (and_right (p x) (list_all p xs) a) h ]

module _ {X : Type 0} (eq : X → X → Bool) (exact : (x y : X) → eq x y ≡ true → x ≡ y) where
  pub all_at : (p : X → Bool) (xs : List X) (x : X) → list_all p xs ≡ true → list_any (eq x) xs ≡ true → p x ≡ true
  all_at p xs x a e =
      let s = all_any p (eq x) xs a e in
      ap p (exact x s.0 s.2) ∙ s.1

  pub any_at : (p : X → Bool) (xs : List X) (x : X) → list_any (eq x) xs ≡ true → p x ≡ true → list_any p xs ≡ true
  any_at p xs x e h = any_weaker (eq x) p (λ y g. ap p (sym (exact x y g)) ∙ h) xs e

  pub exact_list : (xs ys : List X) → lists_eq eq xs ys ≡ true → xs ≡ ys
  exact_list [] [] e = refl
  exact_list [] (y ∷ ys) e = cc
  exact_list (x ∷ xs) [] e = cc
  exact_list (x ∷ xs) (y ∷ ys) e = ap (λ z. z ∷ xs) (exact x y (and_left (eq x y) (lists_eq eq xs ys) e)) ∙ ap (λ zs. y ∷ zs) (exact_list xs ys (and_right (eq x y) (lists_eq eq xs ys) e))

equal_from : (o : Ordering) → is_eq o ≡ true → o ≡ Equal
equal_from Less e = cc
equal_from Equal e = refl
equal_from Greater e = cc

abbrev value_eq : Value → Value → Bool
value_eq x y = is_eq (value_cmp x y)

exact_value_eq : (x y : Value) → value_eq x y ≡ true → x ≡ y
exact_value_eq x y e = exact_values x y (equal_from (value_cmp x y) e)

pub exact_predicate_eq : (x y : Predicate) → predicate_eq x y ≡ true → x ≡ y
exact_predicate_eq x y e = exact_predicates x y (equal_from (predicate_cmp x y) e)

pub exact_numbers : (x y : ℕ) → nat_eq x y ≡ true → x ≡ y
exact_numbers x y e = grind (arith, nat_tests)

number_equal : (x y : ℕ) → x ≡ y → nat_eq x y ≡ true
number_equal x y e = grind (arith, nat_tests)

divides_on : (n m k : ℕ) → n % m ≡ 0 → m % k ≡ 0 → n % k ≡ 0
divides_on n m k p q = mod-eq-zero_of_dvd k (dvd_trans k (dvd_of_mod-eq-zero k q) (dvd_of_mod-eq-zero m p))

one_divides : (b e : ℕ) → b ≡ 0 → suc b % suc e ≡ 0 → e ≡ 0
one_divides b e p q =
    let d : suc e ∣ suc zero = subst (λ n. suc e ∣ n) (ap suc p) (dvd_of_mod-eq-zero (suc e) q) in
    let s : suc e ≡ suc zero = eq-one_of_dvd-one d in
    omega arith

pub exact_measures : (x y : Measure) → measure_eq x y ≡ true → x ≡ y
exact_measures Rows Rows e = refl
exact_measures Rows (Count b) e = cc
exact_measures Rows (Sum b) e = cc
exact_measures Rows (Min b) e = cc
exact_measures Rows (Max b) e = cc
exact_measures Rows (Distinct b) e = cc
exact_measures Rows (Avg b) e = cc
exact_measures (Count a) Rows e = cc
exact_measures (Count a) (Count b) e = ap Count (exact_numbers a b e)
exact_measures (Count a) (Sum b) e = cc
exact_measures (Count a) (Min b) e = cc
exact_measures (Count a) (Max b) e = cc
exact_measures (Count a) (Distinct b) e = cc
exact_measures (Count a) (Avg b) e = cc
exact_measures (Sum a) Rows e = cc
exact_measures (Sum a) (Count b) e = cc
exact_measures (Sum a) (Sum b) e = ap Sum (exact_numbers a b e)
exact_measures (Sum a) (Min b) e = cc
exact_measures (Sum a) (Max b) e = cc
exact_measures (Sum a) (Distinct b) e = cc
exact_measures (Sum a) (Avg b) e = cc
exact_measures (Min a) Rows e = cc
exact_measures (Min a) (Count b) e = cc
exact_measures (Min a) (Sum b) e = cc
exact_measures (Min a) (Min b) e = ap Min (exact_numbers a b e)
exact_measures (Min a) (Max b) e = cc
exact_measures (Min a) (Distinct b) e = cc
exact_measures (Min a) (Avg b) e = cc
exact_measures (Max a) Rows e = cc
exact_measures (Max a) (Count b) e = cc
exact_measures (Max a) (Sum b) e = cc
exact_measures (Max a) (Min b) e = cc
exact_measures (Max a) (Max b) e = ap Max (exact_numbers a b e)
exact_measures (Max a) (Distinct b) e = cc
exact_measures (Max a) (Avg b) e = cc
exact_measures (Distinct a) Rows e = cc
exact_measures (Distinct a) (Count b) e = cc
exact_measures (Distinct a) (Sum b) e = cc
exact_measures (Distinct a) (Min b) e = cc
exact_measures (Distinct a) (Max b) e = cc
exact_measures (Distinct a) (Distinct b) e = ap Distinct (exact_numbers a b e)
exact_measures (Distinct a) (Avg b) e = cc
exact_measures (Avg a) Rows e = cc
exact_measures (Avg a) (Count b) e = cc
exact_measures (Avg a) (Sum b) e = cc
exact_measures (Avg a) (Min b) e = cc
exact_measures (Avg a) (Max b) e = cc
exact_measures (Avg a) (Distinct b) e = cc
exact_measures (Avg a) (Avg b) e = ap Avg (exact_numbers a b e)

pub exact_dims : (x y : Dimension) → dim_eq x y ≡ true → x ≡ y
exact_dims x y e =
    ap (λ (n : ℕ). record x { column = n }) (exact_numbers x.column y.column (and_left (nat_eq x.column y.column) (nat_eq x.beyond y.beyond) e))
    ∙ ap (λ (n : ℕ). record y { beyond = n }) (exact_numbers x.beyond y.beyond (and_right (nat_eq x.column y.column) (nat_eq x.beyond y.beyond) e))

exact_bools : (x y : Bool) → bool_eq x y ≡ true → x ≡ y
exact_bools true y e = sym e
exact_bools false true e = cc
exact_bools false false e = refl

exact_order : (x y : OrderKey) → order_eq x y ≡ true → x ≡ y
exact_order x y e =
    ap (λ (n : ℕ). record x { place = n }) (exact_numbers x.place y.place (and_left (nat_eq x.place y.place) (bool_eq x.down y.down) e))
    ∙ ap (λ (b : Bool). record y { down = b }) (exact_bools x.down y.down (and_right (nat_eq x.place y.place) (bool_eq x.down y.down) e))

exact_tops : (x y : Option ℕ) → top_eq x y ≡ true → x ≡ y
exact_tops None None e = refl
exact_tops None (Some n) e = cc
exact_tops (Some m) None e = cc
exact_tops (Some m) (Some n) e = ap Some (exact_numbers m n e)

pub exact_queries : (p q : Query) → query_eq p q ≡ true → p ≡ q
exact_queries p q e =
    let e5 = and_left _ _ e in
    let e4 = and_left _ _ e5 in
    let e3 = and_left _ _ e4 in
    let e2 = and_left _ _ e3 in
    ap (λ (z : ℕ). record p { source = z }) (exact_numbers p.source q.source (and_left _ _ e2))
    ∙ ap (λ (z : List Predicate). record p { source = q.source; filters = z }) (exact_list predicate_eq exact_predicate_eq p.filters q.filters (and_right _ _ e2))
    ∙ ap (λ (z : List Dimension). record p { source = q.source; filters = q.filters; dims = z }) (exact_list dim_eq exact_dims p.dims q.dims (and_right _ _ e3))
    ∙ ap (λ (z : List Measure). record p { source = q.source; filters = q.filters; dims = q.dims; measures = z }) (exact_list measure_eq exact_measures p.measures q.measures (and_right _ _ e4))
    ∙ ap (λ (z : List OrderKey). record q { order = z; top = p.top }) (exact_list order_eq exact_order p.order q.order (and_right _ _ e5))
    ∙ ap (λ (z : Option ℕ). record q { top = z }) (exact_tops p.top q.top (and_right _ _ e))

has_sub : (a b : List Value) (v : Value) → all_in value_cmp a b ≡ true → has value_cmp a v ≡ true → has value_cmp b v ≡ true
has_sub a b v s h = all_at value_eq exact_value_eq (has value_cmp b) a v s h

from_within : (low outer : Option ℤ) (n : ℤ) → low_within low outer ≡ true → from_low low n ≡ true → from_low outer n ≡ true
from_within low None n p h = refl
from_within None (Some outer) n p h = cc
from_within (Some low) (Some outer) n p h = grind (arith, ints)

to_within : (high outer : Option ℤ) (n : ℤ) → high_within high outer ≡ true → to_high high n ≡ true → to_high outer n ≡ true
to_within high None n p h = refl
to_within None (Some outer) n p h = cc
to_within (Some high) (Some outer) n p h = grind (arith, ints)

between_within : (l1 h1 l2 h2 : Option ℤ) (v : Value) → low_within l1 l2 ≡ true → high_within h1 h2 ≡ true → lies_between l1 h1 v ≡ true → lies_between l2 h2 v ≡ true
between_within l1 h1 l2 h2 value.Null p q e = cc
between_within l1 h1 l2 h2 (value.Int n) p q e = and_both (from_low l2 n) (to_high h2 n) (from_within l1 l2 n p (and_left (from_low l1 n) (to_high h1 n) e)) (to_within h1 h2 n q (and_right (from_low l1 n) (to_high h1 n) e))
between_within l1 h1 l2 h2 (value.Word t) p q e = cc

low_trans : (a b c : Option ℤ) → low_within a b ≡ true → low_within b c ≡ true → low_within a c ≡ true
low_trans a b None p q = refl
low_trans a None (Some c) p q = cc
low_trans None (Some b) (Some c) p q = cc
low_trans (Some a) (Some b) (Some c) p q = grind (arith, ints)

high_trans : (a b c : Option ℤ) → high_within a b ≡ true → high_within b c ≡ true → high_within a c ≡ true
high_trans a b None p q = refl
high_trans a None (Some c) p q = cc
high_trans None (Some b) (Some c) p q = cc
high_trans (Some a) (Some b) (Some c) p q = grind (arith, ints)

pub within_trans : (x y z : Test) → within x y ≡ true → within y z ≡ true → within x z ≡ true
within_trans (Among a) (Among b) (Among c) p q = all_weaker (has value_cmp b) (has value_cmp c) (λ v h. has_sub b c v q h) a p
within_trans (Among a) (Among b) (Except c) p q = not_by (list_any (has value_cmp c) a) (λ h. let s = all_any (has value_cmp b) (has value_cmp c) a p h in not_both (list_any (has value_cmp c) b) q (any_at value_eq exact_value_eq (has value_cmp c) b s.0 s.1 s.2))
within_trans (Among a) (Among b) (Between cl ch) p q = all_weaker (has value_cmp b) (lies_between cl ch) (λ v h. all_at value_eq exact_value_eq (lies_between cl ch) b v q h) a p
within_trans (Among a) (Except b) (Among c) p q = cc
within_trans (Among a) (Except b) (Except c) p q = not_by (list_any (has value_cmp c) a) (λ h. not_both (list_any (has value_cmp b) a) p (any_weaker (has value_cmp c) (has value_cmp b) (λ v g. has_sub c b v q g) a h))
within_trans (Among a) (Except b) (Between cl ch) p q = cc
within_trans (Among a) (Between bl bh) (Among c) p q = cc
within_trans (Among a) (Between bl bh) (Except c) p q = not_by (list_any (has value_cmp c) a) (λ h. let s = all_any (lies_between bl bh) (has value_cmp c) a p h in not_both (list_any (lies_between bl bh) c) q (any_at value_eq exact_value_eq (lies_between bl bh) c s.0 s.2 s.1))
within_trans (Among a) (Between bl bh) (Between cl ch) p q = all_weaker (lies_between bl bh) (lies_between cl ch) (λ v h. between_within bl bh cl ch v (and_left _ _ q) (and_right _ _ q) h) a p
within_trans (Except a) (Among b) (Among c) p q = cc
within_trans (Except a) (Among b) (Except c) p q = cc
within_trans (Except a) (Among b) (Between cl ch) p q = cc
within_trans (Except a) (Except b) (Among c) p q = cc
within_trans (Except a) (Except b) (Except c) p q = all_weaker (has value_cmp b) (has value_cmp a) (λ v h. has_sub b a v p h) c q
within_trans (Except a) (Except b) (Between cl ch) p q = cc
within_trans (Except a) (Between bl bh) (Among c) p q = cc
within_trans (Except a) (Between bl bh) (Except c) p q = cc
within_trans (Except a) (Between bl bh) (Between cl ch) p q = cc
within_trans (Between al ah) (Among b) (Among c) p q = cc
within_trans (Between al ah) (Among b) (Except c) p q = cc
within_trans (Between al ah) (Among b) (Between cl ch) p q = cc
within_trans (Between al ah) (Except b) (Among c) p q = cc
within_trans (Between al ah) (Except b) (Except c) p q = not_by (list_any (lies_between al ah) c) (λ h. let s = all_any (has value_cmp b) (lies_between al ah) c q h in not_both (list_any (lies_between al ah) b) p (any_at value_eq exact_value_eq (lies_between al ah) b s.0 s.1 s.2))
within_trans (Between al ah) (Except b) (Between cl ch) p q = cc
within_trans (Between al ah) (Between bl bh) (Among c) p q = cc
within_trans (Between al ah) (Between bl bh) (Except c) p q = not_by (list_any (lies_between al ah) c) (λ h. not_both (list_any (lies_between bl bh) c) q (any_weaker (lies_between al ah) (lies_between bl bh) (λ v g. between_within al ah bl bh v (and_left _ _ p) (and_right _ _ p) g) c h))
within_trans (Between al ah) (Between bl bh) (Between cl ch) p q = and_both (low_within al cl) (high_within ah ch) (low_trans al bl cl (and_left _ _ p) (and_left _ _ q)) (high_trans ah bh ch (and_right _ _ p) (and_right _ _ q))

-- what covering says, part by part
pub record Covering (p q : Query) : Type 0 where
  pub source : nat_eq p.source q.source ≡ true
  pub whole : (is_none p.top || query_eq p q) ≡ true
  pub dims : list_all (makes p) q.dims ≡ true
  pub filters : list_all (implied q) p.filters ≡ true
  pub checks : list_all (checkable p) q.filters ≡ true
  pub parts : list_all (λ m. list_all (gives p q) (needs m)) q.measures ≡ true

parts_of : (p q : Query) → covers p q ≡ true → Covering p q
parts_of p q e =
    let e5 = and_left _ _ e in
    let e4 = and_left _ _ e5 in
    let e3 = and_left _ _ e4 in
    let e2 = and_left _ _ e3 in
    record { source = and_left _ _ e2; whole = and_right _ _ e2; dims = and_right _ _ e3; filters = and_right _ _ e4; checks = and_right _ _ e5; parts = and_right _ _ e }

pub from_parts : (p q : Query) → Covering p q → covers p q ≡ true
from_parts p q c = and_both _ _ (and_both _ _ (and_both _ _ (and_both _ _ (and_both _ _ c.source c.whole) c.dims) c.filters) c.checks) c.parts

-- where one width is made of another and that of a third, the first is made of the third
pub made_trans : (d e f : Dimension) → made_of d e ≡ true → made_of e f ≡ true → made_of d f ≡ true
made_trans d e f a b =
    and_both (nat_eq d.column f.column) (nat_eq (width_of d % width_of f) 0)
    (ap (λ n. nat_eq n f.column) (exact_numbers d.column e.column (and_left _ _ a)) ∙ and_left _ _ b)
    (number_equal (width_of d % width_of f) 0
    (divides_on (width_of d) (width_of e) (width_of f) (exact_numbers (width_of d % width_of e) 0 (and_right (nat_eq d.column e.column) _ a)) (exact_numbers (width_of e % width_of f) 0 (and_right (nat_eq e.column f.column) _ b))))

-- what q can make of its dimensions, p can
pub makes_on : (p q : Query) → list_all (makes p) q.dims ≡ true → (d : Dimension) → makes q d ≡ true → makes p d ≡ true
makes_on p q k d h =
    let s = all_any (makes p) (made_of d) q.dims k h in
    any_weaker (made_of s.0) (made_of d) (λ e m. made_trans d s.0 e s.2 m) p.dims s.1

narrow : (b e : ℕ) → nat_eq b 0 ≡ true → nat_eq (suc b % suc e) 0 ≡ true → nat_eq e 0 ≡ true
narrow b e p q = number_equal e 0 (one_divides b e (exact_numbers b 0 p) (exact_numbers (suc b % suc e) 0 q))

-- what a plain dimension is made of is plain
pub plain_made : (c : ℕ) (d e : Dimension) → (nat_eq c d.column && is_plain d) ≡ true → made_of d e ≡ true → (nat_eq c e.column && is_plain e) ≡ true
plain_made c d e a b =
    and_both (nat_eq c e.column) (is_plain e)
    (ap (λ n. nat_eq n e.column) (exact_numbers c d.column (and_left _ _ a)) ∙ and_left _ _ b)
    (narrow d.beyond e.beyond (and_right (nat_eq c d.column) _ a) (and_right (nat_eq d.column e.column) _ b))

pub dim_down : (p q : Query) → list_all (makes p) q.dims ≡ true → (c : ℕ) → groups_by q c ≡ true → groups_by p c ≡ true
dim_down p q k c h =
    let s = all_any (makes p) (λ d. nat_eq c d.column && is_plain d) q.dims k h in
    any_weaker (made_of s.0) (λ e. nat_eq c e.column && is_plain e) (λ e m. plain_made c s.0 e s.2 m) p.dims s.1

shown_parts : (p q : Query) → Covering p q → (m : Measure) → shows q m ≡ true → list_all (gives p q) (needs m) ≡ true
shown_parts p q k m h = all_at measure_eq exact_measures (λ n. list_all (gives p q) (needs n)) q.measures m k.parts h

all_in_trans : (xs ys zs : List Dimension) → all_in_dims xs ys ≡ true → all_in_dims ys zs ≡ true → all_in_dims xs zs ≡ true
all_in_trans xs ys zs a b = all_weaker (λ d. list_any (dim_eq d) ys) (λ d. list_any (dim_eq d) zs) (λ d h. all_at dim_eq exact_dims (λ e. list_any (dim_eq e) zs) ys d b h) xs a

same_dims_trans : (p q r : Query) → same_dims p q ≡ true → same_dims q r ≡ true → same_dims p r ≡ true
same_dims_trans p q r a b =
    and_both (all_in_dims p.dims r.dims) (all_in_dims r.dims p.dims)
    (all_in_trans p.dims q.dims r.dims (and_left _ _ a) (and_left _ _ b))
    (all_in_trans r.dims q.dims p.dims (and_right _ _ b) (and_right _ _ a))

first_part : (a : Bool) → (a && true) ≡ true → a ≡ true
first_part a e = and_left a true e

grouped_rows : (p q : Query) → Covering p q → (c : ℕ) → (groups_by q c && shows q Rows) ≡ true → (groups_by p c && shows p Rows) ≡ true
grouped_rows p q k c h = and_both (groups_by p c) (shows p Rows) (dim_down p q k.dims c (and_left _ _ h)) (first_part (shows p Rows) (shown_parts p q k Rows (and_right _ _ h)))

gives_on : (p q r : Query) → Covering p q → (part : Part) → gives q r part ≡ true → gives p r part ≡ true
gives_on p q r k TheRows h = first_part (shows p Rows) (shown_parts p q k Rows h)
gives_on p q r k (Filled c) h =
    elim (or_cases (shows q (Count c) || shows q (Avg c)) (groups_by q c && shows q Rows) h) [
      | inl g ↦ elim (or_cases (shows q (Count c)) (shows q (Avg c)) g) [
        | inl a ↦ first_part (gives p q (Filled c)) (shown_parts p q k (Count c) a)
        | inr a ↦ first_part (gives p q (Filled c)) (and_right (gives p q (Total c)) _ (shown_parts p q k (Avg c) a))
      ]
      | inr g ↦ or_right (shows p (Count c) || shows p (Avg c)) (groups_by p c && shows p Rows) (grouped_rows p q k c g)
    ]
gives_on p q r k (Total c) h =
    elim (or_cases (shows q (Sum c) || shows q (Avg c)) (groups_by q c && shows q Rows) h) [
      | inl g ↦ elim (or_cases (shows q (Sum c)) (shows q (Avg c)) g) [
        | inl a ↦ first_part (gives p q (Total c)) (shown_parts p q k (Sum c) a)
        | inr a ↦ and_left (gives p q (Total c)) _ (shown_parts p q k (Avg c) a)
      ]
      | inr g ↦ or_right (shows p (Sum c) || shows p (Avg c)) (groups_by p c && shows p Rows) (grouped_rows p q k c g)
    ]
gives_on p q r k (Least c) h =
    elim (or_cases (shows q (Min c)) (groups_by q c) h) [
      | inl a ↦ first_part (gives p q (Least c)) (shown_parts p q k (Min c) a)
      | inr g ↦ or_right (shows p (Min c)) (groups_by p c) (dim_down p q k.dims c g)
    ]
gives_on p q r k (Greatest c) h =
    elim (or_cases (shows q (Max c)) (groups_by q c) h) [
      | inl a ↦ first_part (gives p q (Greatest c)) (shown_parts p q k (Max c) a)
      | inr g ↦ or_right (shows p (Max c)) (groups_by p c) (dim_down p q k.dims c g)
    ]
gives_on p q r k (Different c) h =
    elim (or_cases (groups_by q c) (shows q (Distinct c) && same_dims q r) h) [
      | inl g ↦ or_left (groups_by p c) _ (dim_down p q k.dims c g)
      | inr g ↦ elim (or_cases (groups_by p c) (shows p (Distinct c) && same_dims p q) (first_part (gives p q (Different c)) (shown_parts p q k (Distinct c) (and_left _ _ g)))) [
        | inl a ↦ or_left (groups_by p c) _ a
        | inr a ↦ or_right (groups_by p c) _ (and_both (shows p (Distinct c)) (same_dims p r) (and_left _ _ a) (same_dims_trans p q r (and_right _ _ a) (and_right _ _ g)))
      ]
    ]

implied_on : (q r : Query) → list_all (implied r) q.filters ≡ true → (f : Predicate) → implied q f ≡ true → implied r f ≡ true
implied_on q r k f h =
    let s = all_any (implied r) (λ g. nat_eq g.column f.column && within g.test f.test) q.filters k h in
    any_weaker (λ g. nat_eq g.column s.0.column && within g.test s.0.test) (λ g. nat_eq g.column f.column && within g.test f.test)
    (λ g e. and_both (nat_eq g.column f.column) (within g.test f.test)
    (ap (λ n. nat_eq g.column n) (sym (exact_numbers s.0.column f.column (and_left _ _ s.2))) ∙ and_left _ _ e)
    (within_trans g.test s.0.test f.test (and_right _ _ e) (and_right _ _ s.2)))
    r.filters s.1

checkable_on : (p q : Query) → Covering p q → (h : Predicate) → checkable q h ≡ true → checkable p h ≡ true
checkable_on p q k h e =
    elim (or_cases (list_any (predicate_eq h) q.filters) (groups_by q h.column) e) [
      | inl a ↦ all_at predicate_eq exact_predicate_eq (checkable p) q.filters h k.checks a
      | inr a ↦ or_right (list_any (predicate_eq h) p.filters) (groups_by p h.column) (dim_down p q k.dims h.column a)
    ]

covering_trans : (p q r : Query) → is_none p.top ≡ true → Covering p q → Covering q r → Covering p r
covering_trans p q r top a b = record {
  source = ap (λ n. nat_eq n r.source) (exact_numbers p.source q.source a.source) ∙ b.source;
  whole = or_left (is_none p.top) (query_eq p r) top;
  dims = all_weaker (makes q) (makes p) (makes_on p q a.dims) r.dims b.dims;
  filters = all_weaker (implied q) (implied r) (implied_on q r b.filters) p.filters a.filters;
  checks = all_weaker (checkable q) (checkable p) (checkable_on p q a) r.filters b.checks;
  parts = all_weaker (λ m. list_all (gives q r) (needs m)) (λ m. list_all (gives p r) (needs m)) (λ m. all_weaker (gives q r) (gives p r) (gives_on p q r a) (needs m)) r.measures b.parts;
}

pub covers_trans : (p q r : Query) → covers p q ≡ true → covers q r ≡ true → covers p r ≡ true
covers_trans p q r a b =
    let k = parts_of p q a in
    elim (or_cases (is_none p.top) (query_eq p q) k.whole) [
      | inl top ↦ from_parts p r (covering_trans p q r top k (parts_of q r b))
      | inr same ↦ ap (λ x. covers x r) (exact_queries p q same) ∙ b
    ]

module _ {X : Type 0} (eq : X → X → Bool) (same : (x : X) → eq x x ≡ true) where
  pub all_self : (xs : List X) → list_all (λ x. list_any (eq x) xs) xs ≡ true
  all_self [] = refl
  all_self (x ∷ xs) = and_both (eq x x || list_any (eq x) xs) _ (or_left (eq x x) _ (same x)) (all_weaker (λ y. list_any (eq y) xs) (λ y. list_any (eq y) (x ∷ xs)) (λ y h. or_right (eq y x) (list_any (eq y) xs) h) xs (all_self xs))

  pub lists_same : (xs : List X) → lists_eq eq xs xs ≡ true
  lists_same [] = refl
  lists_same (x ∷ xs) = and_both (eq x x) (lists_eq eq xs xs) (same x) (lists_same xs)

pub number_same : (n : ℕ) → nat_eq n n ≡ true
number_same n = grind (arith, nat_tests)

pub dim_same : (d : Dimension) → dim_eq d d ≡ true
dim_same d = and_both (nat_eq d.column d.column) (nat_eq d.beyond d.beyond) (number_same d.column) (number_same d.beyond)

pub made_same : (d : Dimension) → made_of d d ≡ true
made_same d = and_both (nat_eq d.column d.column) (nat_eq (width_of d % width_of d) 0) (number_same d.column) (number_equal (width_of d % width_of d) 0 (mod_self (width_of d)))

value_same : (v : Value) → value_eq v v ≡ true
value_same v = (eq_by_cmp_equiv value_cmp_total).refl v

pub predicate_same : (p : Predicate) → predicate_eq p p ≡ true
predicate_same p = (eq_by_cmp_equiv predicate_cmp_total).refl p

pub measure_same : (m : Measure) → measure_eq m m ≡ true
measure_same Rows = refl
measure_same (Count c) = number_same c
measure_same (Sum c) = number_same c
measure_same (Min c) = number_same c
measure_same (Max c) = number_same c
measure_same (Distinct c) = number_same c
measure_same (Avg c) = number_same c

bool_same : (b : Bool) → bool_eq b b ≡ true
bool_same true = refl
bool_same false = refl

order_same : (k : OrderKey) → order_eq k k ≡ true
order_same k = and_both (nat_eq k.place k.place) (bool_eq k.down k.down) (number_same k.place) (bool_same k.down)

top_same : (n : Option ℕ) → top_eq n n ≡ true
top_same None = refl
top_same (Some n) = number_same n

low_same : (low : Option ℤ) → low_within low low ≡ true
low_same None = refl
low_same (Some n) = grind (arith, ints)

high_same : (high : Option ℤ) → high_within high high ≡ true
high_same None = refl
high_same (Some n) = grind (arith, ints)

pub within_refl : (t : Test) → within t t ≡ true
within_refl (Among list) = all_self value_eq value_same list
within_refl (Except list) = all_self value_eq value_same list
within_refl (Between low high) = and_both (low_within low low) (high_within high high) (low_same low) (high_same high)

pub query_same : (q : Query) → query_eq q q ≡ true
query_same q = and_both _ _ (and_both _ _ (and_both _ _ (and_both _ _ (and_both _ _ (number_same q.source) (lists_same predicate_eq predicate_same q.filters)) (lists_same dim_eq dim_same q.dims)) (lists_same measure_eq measure_same q.measures)) (lists_same order_eq order_same q.order)) (top_same q.top)

pub own_parts : (p : Query) (m : Measure) → shows p m ≡ true → list_all (gives p p) (needs m) ≡ true
own_parts p Rows h = and_both (shows p Rows) true h refl
own_parts p (Count c) h = and_both (gives p p (Filled c)) true (or_left (shows p (Count c) || shows p (Avg c)) _ (or_left (shows p (Count c)) _ h)) refl
own_parts p (Sum c) h = and_both (gives p p (Total c)) true (or_left (shows p (Sum c) || shows p (Avg c)) _ (or_left (shows p (Sum c)) _ h)) refl
own_parts p (Min c) h = and_both (gives p p (Least c)) true (or_left (shows p (Min c)) _ h) refl
own_parts p (Max c) h = and_both (gives p p (Greatest c)) true (or_left (shows p (Max c)) _ h) refl
own_parts p (Distinct c) h = and_both (gives p p (Different c)) true (or_right (groups_by p c) _ (and_both (shows p (Distinct c)) (same_dims p p) h (and_both _ _ (all_self dim_eq dim_same p.dims) (all_self dim_eq dim_same p.dims)))) refl
own_parts p (Avg c) h = and_both (gives p p (Total c)) (gives p p (Filled c) && true) (or_left (shows p (Sum c) || shows p (Avg c)) _ (or_right (shows p (Sum c)) _ h)) (and_both (gives p p (Filled c)) true (or_left (shows p (Count c) || shows p (Avg c)) _ (or_right (shows p (Count c)) _ h)) refl)

pub covers_refl : (p : Query) → covers p p ≡ true
covers_refl p = from_parts p p (record {
  source = number_same p.source;
  whole = or_right (is_none p.top) (query_eq p p) (query_same p);
  dims = all_self made_of made_same p.dims;
  filters = all_self (λ f g. nat_eq g.column f.column && within g.test f.test) (λ f. and_both (nat_eq f.column f.column) (within f.test f.test) (number_same f.column) (within_refl f.test)) p.filters;
  checks = all_weaker (λ g. list_any (predicate_eq g) p.filters) (checkable p) (λ g h. or_left (list_any (predicate_eq g) p.filters) (groups_by p g.column) h) p.filters (all_self predicate_eq predicate_same p.filters);
  parts = all_weaker (shows p) (λ m. list_all (gives p p) (needs m)) (own_parts p) p.measures (all_self measure_eq measure_same p.measures);
})
