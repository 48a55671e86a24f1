-- Queries fuse where their kinds are equal.
use Rattle.std.proofs.Common.{◌≡◌, ℕ, suc, Bool, true, false, not, ◌||◌, ◌&&◌, List, [], ◌∷◌, map, refl, sym, ap, ◌∙◌, subst, nat_eq, arith}
use Rattle.std.specs.List.{list_any, list_all}
use Rattle.std.specs.declared.cmp.Ordering.{Ordering}
use Rattle.std.specs.declared.cmp.Ordering.TheVariants.{Less, Equal, Greater}
use Rattle.std.specs.Cmp.{IsTotalOrder}
use Rattle.std.specs.Cmp.Lexicographic.{pointwise, pointwise_decides}
use Rattle.std.specs.Ordering.{is_eq, eq_by_cmp, nat_cmp, ordering_then, ordering_reverse}
use Rattle.std.proofs.lemmas.Cmp.{nat_cmp_total, on_total, then_total, tied_itself}
use Rattle.std.proofs.lemmas.Bool.Decides.{nat_tests}
use Rattle.std.proofs.lemmas.List.Folds.{list_all-map}
use Rattle.dq_base.specs.Covering.{lists_eq, predicate_eq, all_in_dims}
use Rattle.dq_base.specs.Canonical.{predicate_cmp}
use Rattle.dq_base.specs.Dims.{Dimension, dim_eq}
use Rattle.dq_base.specs.Batches.{fuses}
use Rattle.dq_base.specs.Sets.{set_of, has, all_in}
use Rattle.dq_base.proofs.SetLaws.{Each, Ascends, ascends_set_of}
use Rattle.dq_base.proofs.SetTests.{any_set_of}
use Rattle.dq_fuse.specs.Kinds.{Pair, pair_of, pair_eq, pair_cmp, kind_of, kind_eq}
use Rattle.dq_fuse.specs.KindLaws.{kind_eq_equiv}
use Rattle.dq_base.specs.declared.query.Query.{Query}

same_by : (a b : Bool) → (a ≡ true → b ≡ true) → (b ≡ true → a ≡ true) → a ≡ b
same_by true b f g = sym (f refl)
same_by false true f g = g refl
same_by false false f g = refl

and_first : (a b : Bool) → (a && b) ≡ true → a ≡ true
and_first true b e = refl
and_first false b e = e

and_second : (a b : Bool) → (a && b) ≡ true → b ≡ true
and_second true b e = e
and_second false b e = cc

and_join : (a b : Bool) → a ≡ true → b ≡ true → (a && b) ≡ true
and_join true b e f = f
and_join false b e f = e

or_second : (a b : Bool) → b ≡ true → (a || b) ≡ true
or_second true b e = refl
or_second false b e = e

not_or : (a b : Bool) → (a && not b) ≡ not (not a || b)
not_or true true = refl
not_or true false = refl
not_or false true = refl
not_or false false = refl

all_is : {X : Type 0} (p : X → Bool) (xs : List X) → list_all p xs ≡ not (list_any (λ x. not (p x)) xs)
all_is p [] = refl
all_is p (x ∷ xs) = ap (λ b. p x && b) (all_is p xs) ∙ not_or (p x) (list_any (λ y. not (p y)) xs)

all_agree : {X : Type 0} (p q : X → Bool) → ((x : X) → p x ≡ q x) → (xs : List X) → list_all p xs ≡ list_all q xs
all_agree p q h [] = refl
all_agree p q h (x ∷ xs) = ap (λ b. b && list_all p xs) (h x) ∙ ap (λ b. q x && b) (all_agree p q h xs)

any_agree : {X : Type 0} (p q : X → Bool) → ((x : X) → p x ≡ q x) → (xs : List X) → list_any p xs ≡ list_any q xs
any_agree p q h [] = refl
any_agree p q h (x ∷ xs) = ap (λ b. b || list_any p xs) (h x) ∙ ap (λ b. q x || b) (any_agree p q h xs)

any_map : {X Y : Type 0} (p : Y → Bool) (f : X → Y) (xs : List X) → list_any p (map f xs) ≡ list_any (λ x. p (f x)) xs
any_map p f [] = refl
any_map p f (x ∷ xs) = ap (λ b. p (f x) || b) (any_map p f xs)

all_weaker : {X : Type 0} (p q : X → Bool) → ((x : X) → p x ≡ true → q x ≡ true) → (xs : List X) → list_all p xs ≡ true → list_all q xs ≡ true
all_weaker p q h [] e = refl
all_weaker p q h (x ∷ xs) e = and_join (q x) (list_all q xs) (h x (and_first (p x) (list_all p xs) e)) (all_weaker p q h xs (and_second (p x) (list_all p xs) e))

tied_true : (o : Ordering) → o ≡ Equal → is_eq o ≡ true
tied_true o e = ap is_eq e

tied_equal : (o : Ordering) → is_eq o ≡ true → o ≡ Equal
tied_equal Less e = cc
tied_equal Equal e = refl
tied_equal Greater e = cc

-- ascending lists that have the same items are equal
module _ {X : Type 0} (cmp : X → X → Ordering) (o : IsTotalOrder cmp) (exact : (x y : X) → cmp x y ≡ Equal → x ≡ y) where
  none_above : (x : X) (ys : List X) → Each (λ y. cmp x y ≡ Less) ys → has cmp ys x ≡ false
  none_above x [] e = refl
  none_above x (y ∷ ys) e = ap (λ r. is_eq r || has cmp ys x) e.0 ∙ none_above x ys e.1

  below_all : (x y : X) (ys : List X) → cmp x y ≡ Less → Each (λ z. cmp y z ≡ Less) ys → Each (λ z. cmp x z ≡ Less) ys
  below_all x y [] l e = tt
  below_all x y (z ∷ ys) l e = (o.trans x y z l e.0, below_all x y ys l e.1)

  never : (x y : X) (ys : List X) → cmp x y ≡ Less → Each (λ z. cmp y z ≡ Less) ys → has cmp (y ∷ ys) x ≡ false
  never x y ys l e = none_above x (y ∷ ys) (l, below_all x y ys l e)

  turned : (x y : X) → cmp x y ≡ Less → cmp y x ≡ Greater
  turned x y e = o.antisymm y x ∙ ap ordering_reverse e

  back : (x y : X) → cmp x y ≡ Greater → cmp y x ≡ Less
  back x y e = o.antisymm y x ∙ ap ordering_reverse e

  without_head : (b : X) (xs ys : List X) → Each (λ x. cmp b x ≡ Less) xs → all_in cmp xs (b ∷ ys) ≡ true → all_in cmp xs ys ≡ true
  without_head b [] ys e h = refl
  without_head b (x ∷ xs) ys e h =
      let other : has cmp (b ∷ ys) x ≡ has cmp ys x = ap (λ r. is_eq r || has cmp ys x) (turned b x e.0) in
      and_join (has cmp ys x) (all_in cmp xs ys) (sym other ∙ and_first (has cmp (b ∷ ys) x) (all_in cmp xs (b ∷ ys)) h)
      (without_head b xs ys e.1 (and_second (has cmp (b ∷ ys) x) (all_in cmp xs (b ∷ ys)) h))

  pub same_items : (xs ys : List X) → Ascends cmp xs → Ascends cmp ys → all_in cmp xs ys ≡ true → all_in cmp ys xs ≡ true → xs ≡ ys
  same_items [] [] a b f g = refl
  same_items [] (y ∷ ys) a b f g = cc
  same_items (x ∷ xs) [] a b f g = cc
  same_items (x ∷ xs) (y ∷ ys) a b f g = (elim (cmp x y) as (λ r. cmp x y ≡ r → (x ∷ xs) ≡ (y ∷ ys)) [
    | Less ↦ λ e.
        let t = and_first (has cmp (y ∷ ys) x) (all_in cmp xs (y ∷ ys)) f in
        let n = never x y ys e b.0 in cc
    | Equal ↦ λ e.
        let s = exact x y e in
        let P : X → Type 0 = λ z. Each (λ w. cmp z w ≡ Less) xs in
        let Q : X → Type 0 = λ z. all_in cmp ys (z ∷ xs) ≡ true in
        let rest = same_items xs ys a.1 b.1
        (without_head y xs ys (subst P s a.0) (and_second (has cmp (y ∷ ys) x) (all_in cmp xs (y ∷ ys)) f))
        (without_head y ys xs b.0 (subst Q s (and_second (has cmp (x ∷ xs) y) (all_in cmp ys (x ∷ xs)) g))) in
        ap (λ z. z ∷ xs) s ∙ ap (λ zs. y ∷ zs) rest
    | Greater ↦ λ e.
        let t = and_first (has cmp (x ∷ xs) y) (all_in cmp ys (x ∷ xs)) g in
        let n = never y x xs (back x y e) a.0 in cc
  ]) refl

  all_self : (xs : List X) → all_in cmp xs xs ≡ true
  all_self [] = refl
  all_self (x ∷ xs) =
      and_join (has cmp (x ∷ xs) x) (all_in cmp xs (x ∷ xs)) (ap (λ r. is_eq r || has cmp xs x) (tied_itself o x))
      (all_weaker (has cmp xs) (has cmp (x ∷ xs)) (λ y h. or_second (is_eq (cmp y x)) (has cmp xs y) h) xs (all_self xs))

  all_in_sets : (xs ys : List X) → all_in cmp (set_of cmp xs) (set_of cmp ys) ≡ all_in cmp xs ys
  all_in_sets xs ys =
      all_is (has cmp (set_of cmp ys)) (set_of cmp xs)
      ∙ ap not (any_set_of (λ x. not (has cmp (set_of cmp ys) x)) cmp exact xs)
      ∙ sym (all_is (has cmp (set_of cmp ys)) xs)
      ∙ all_agree (has cmp (set_of cmp ys)) (has cmp ys) (λ x. any_set_of (λ y. is_eq (cmp x y)) cmp exact ys) xs

  pub same_sets : (eq : X → X → Bool) → ((x y : X) → (eq x y ≡ true → x ≡ y) × (x ≡ y → eq x y ≡ true)) → (xs ys : List X)
      → pointwise eq (set_of cmp xs) (set_of cmp ys) ≡ (all_in cmp xs ys && all_in cmp ys xs)
  same_sets eq d xs ys =
      let decides = pointwise_decides d (set_of cmp xs) (set_of cmp ys) in
      same_by (pointwise eq (set_of cmp xs) (set_of cmp ys)) (all_in cmp xs ys && all_in cmp ys xs)
      (λ h.
      let s = decides.0 h in
      let P : List X → Type 0 = λ zs. all_in cmp (set_of cmp xs) zs ≡ true in
      let Q : List X → Type 0 = λ zs. all_in cmp zs (set_of cmp xs) ≡ true in
      and_join (all_in cmp xs ys) (all_in cmp ys xs) (sym (all_in_sets xs ys) ∙ subst P s (all_self (set_of cmp xs))) (sym (all_in_sets ys xs) ∙ subst Q s (all_self (set_of cmp xs))))
      (λ h. decides.1 (same_items (set_of cmp xs) (set_of cmp ys) (ascends_set_of cmp o xs) (ascends_set_of cmp o ys)
      (all_in_sets xs ys ∙ and_first (all_in cmp xs ys) (all_in cmp ys xs) h)
      (all_in_sets ys xs ∙ and_second (all_in cmp xs ys) (all_in cmp ys xs) h)))

number_tied : (a b : ℕ) → is_eq (nat_cmp a b) ≡ nat_eq a b
number_tied a b = grind (arith, nat_tests)

then_tied : (r s : Ordering) → is_eq (ordering_then r s) ≡ (is_eq r && is_eq s)
then_tied Less s = refl
then_tied Equal s = refl
then_tied Greater s = refl

pair_tied : (a b : Pair) → is_eq (pair_cmp a b) ≡ pair_eq a b
pair_tied a b = then_tied (nat_cmp a.0 b.0) (nat_cmp a.1 b.1) ∙ ap (λ x. x && is_eq (nat_cmp a.1 b.1)) (number_tied a.0 b.0) ∙ ap (λ x. nat_eq a.0 b.0 && x) (number_tied a.1 b.1)

pair_total : IsTotalOrder pair_cmp
pair_total = then_total (on_total (λ (p : Pair). p.0) nat_cmp_total) (on_total (λ (p : Pair). p.1) nat_cmp_total)

number_exact : (a b : ℕ) → nat_eq a b ≡ true → a ≡ b
number_exact a b e = grind (arith, nat_tests)

number_same : (a : ℕ) → nat_eq a a ≡ true
number_same a = grind (arith, nat_tests)

pair_decides : (a b : Pair) → (pair_eq a b ≡ true → a ≡ b) × (a ≡ b → pair_eq a b ≡ true)
pair_decides a b = (
  λ h. ap (λ (x : ℕ). let p : Pair = (x, a.1) in p) (number_exact a.0 b.0 (and_first (nat_eq a.0 b.0) (nat_eq a.1 b.1) h))
      ∙ ap (λ (x : ℕ). let p : Pair = (b.0, x) in p) (number_exact a.1 b.1 (and_second (nat_eq a.0 b.0) (nat_eq a.1 b.1) h)),
  λ e. let P : Pair → Type 0 = λ c. pair_eq a c ≡ true in subst P e (and_join (nat_eq a.0 a.0) (nat_eq a.1 a.1) (number_same a.0) (number_same a.1)),
)

pair_exact : (a b : Pair) → pair_cmp a b ≡ Equal → a ≡ b
pair_exact a b e = (pair_decides a b).0 (sym (pair_tied a b) ∙ tied_true (pair_cmp a b) e)

width_same : (a b : ℕ) → nat_eq (suc a) (suc b) ≡ nat_eq a b
width_same a b = grind (arith, nat_tests)

dim_tied : (d e : Dimension) → is_eq (pair_cmp (pair_of d) (pair_of e)) ≡ dim_eq d e
dim_tied d e = pair_tied (pair_of d) (pair_of e) ∙ ap (λ x. nat_eq d.column e.column && x) (width_same d.beyond e.beyond)

all_in_dims_is : (ds es : List Dimension) → all_in pair_cmp (map pair_of ds) (map pair_of es) ≡ all_in_dims ds es
all_in_dims_is ds es =
    list_all-map (has pair_cmp (map pair_of es)) pair_of ds
    ∙ all_agree (λ d. has pair_cmp (map pair_of es) (pair_of d)) (λ d. list_any (dim_eq d) es)
    (λ d. any_map (λ p. is_eq (pair_cmp (pair_of d) p)) pair_of es ∙ any_agree (λ e. is_eq (pair_cmp (pair_of d) (pair_of e))) (dim_eq d) (dim_tied d) es) ds

same_dim_sets : (ds es : List Dimension) → pointwise pair_eq (set_of pair_cmp (map pair_of ds)) (set_of pair_cmp (map pair_of es)) ≡ (all_in_dims ds es && all_in_dims es ds)
same_dim_sets ds es =
    same_sets pair_cmp pair_total pair_exact pair_eq pair_decides (map pair_of ds) (map pair_of es)
    ∙ ap (λ b. b && all_in pair_cmp (map pair_of es) (map pair_of ds)) (all_in_dims_is ds es)
    ∙ ap (λ b. all_in_dims ds es && b) (all_in_dims_is es ds)

same_lists : {X : Type 0} (eq : X → X → Bool) (xs ys : List X) → pointwise eq xs ys ≡ lists_eq eq xs ys
same_lists eq [] [] = refl
same_lists eq [] (y ∷ ys) = refl
same_lists eq (x ∷ xs) [] = refl
same_lists eq (x ∷ xs) (y ∷ ys) = ap (λ b. eq x y && b) (same_lists eq xs ys)

pub same_kind : (p q : Query) → kind_eq (kind_of p) (kind_of q) ≡ fuses p q
same_kind p q =
    ap (λ b. nat_eq p.source q.source && b && pointwise pair_eq (kind_of p).dims (kind_of q).dims) (same_lists (eq_by_cmp predicate_cmp) p.filters q.filters)
    ∙ ap (λ b. nat_eq p.source q.source && lists_eq predicate_eq p.filters q.filters && b) (same_dim_sets p.dims q.dims)

-- the other way round
pub same_kind_back : (p q : Query) → kind_eq (kind_of q) (kind_of p) ≡ fuses p q
same_kind_back p q = kind_eq_equiv.symm (kind_of q) (kind_of p) ∙ same_kind p q
