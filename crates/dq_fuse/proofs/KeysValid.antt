-- The key of a group is valid where each of its members is.
use Rattle.std.proofs.Common.{◌≡◌, ℕ, zero, suc, ◌+◌, ◌<◌, ◌≤◌, Bool, true, false, not, ◌||◌, ◌&&◌, cond, eqb, nat_eq, List, [], ◌∷◌, ◌++◌, map, length, refl, sym, ap, ◌∙◌, arith, subst, Option, Some, None}
use Rattle.std.specs.Prelude.{if◌then◌else◌, is_none, nat_le, nat_lt, slice_get}
use Rattle.std.specs.List.{list_all, list_any, filter, fold, enumerate_from, IsDistinct}
use Rattle.std.proofs.lemmas.Cmp.{nat_eq_equiv}
use Rattle.std.proofs.lemmas.Bool.Decides.{nat_tests}
use Rattle.std.proofs.lemmas.List.{length-map, map-append}
use Rattle.std.proofs.lemmas.List.Folds.{list_all-append}
use Rattle.std.proofs.lemmas.Map.Keys.{IsDistinct-push}
use Rattle.std.proofs.lemmas.Map.Steps.{length-le_from_distinct_below}
use Rattle.dq_base.specs.Batches.{groups, groups_from, group_with, fuses, with_measure, union}
use Rattle.dq_base.specs.Covering.{measure_eq}
use Rattle.dq_base.specs.Headings.{Heading}
use Rattle.dq_base.specs.Limits.{most_columns}
use Rattle.dq_base.specs.Validity.{reason_at, first_reason, column_missing, repeats, sorts_fit, shows_nothing, place_missing, too_long, measured, measure_fits}
use Rattle.dq_cover.specs.Parts.{place_of}
use Rattle.dq_cover.proofs.CoverLaws.{and_left, and_right, and_both, exact_numbers}
use Rattle.dq_cover.proofs.Fused.{union_has}
use Rattle.dq_cover.proofs.Marked.{place_eq}
use Rattle.dq_fuse.specs.Valid.{is_valid, is_narrow}
use Rattle.dq_fuse.proofs.KeysCover.{filter_all}
use Rattle.dq_base.specs.declared.invalid.Invalid.{Invalid}
use Rattle.dq_base.specs.declared.invalid.Invalid.TheVariants as invalid
use Rattle.dq_base.specs.declared.query.Measure.{Measure}
use Rattle.dq_base.specs.declared.query.Measure.TheVariants.{Rows, Count, Sum, Min, Max, Distinct, Avg}
use Rattle.dq_base.specs.declared.query.Query.{Query}
use Rattle.dq_base.specs.declared.schema.Sort.{Sort}

or_none_left : (a b : Bool) → (a || b) ≡ false → a ≡ false
or_none_left true b h = cc
or_none_left false b h = refl

or_none_right : (a b : Bool) → (a || b) ≡ false → b ≡ false
or_none_right true b h = cc
or_none_right false b h = h

or_none : (a b : Bool) → a ≡ false → b ≡ false → (a || b) ≡ false
or_none true b e f = cc
or_none false b e f = f

not_true : (b : Bool) → not b ≡ true → b ≡ false
not_true true h = cc
not_true false h = refl

not_false : (b : Bool) → not b ≡ false → b ≡ true
not_false true h = refl
not_false false h = cc

or_left_none : (b : Bool) → (b || false) ≡ b
or_left_none true = refl
or_left_none false = refl

none_from_all : {X : Type 0} (p : X → Bool) (xs : List X) → list_all (λ x. not (p x)) xs ≡ true → list_any p xs ≡ false
none_from_all p [] h = refl
none_from_all p (x ∷ xs) h = or_none (p x) (list_any p xs) (not_true (p x) (and_left (not (p x)) (list_all (λ y. not (p y)) xs) h)) (none_from_all p xs (and_right (not (p x)) (list_all (λ y. not (p y)) xs) h))

all_from_none : {X : Type 0} (p : X → Bool) (xs : List X) → list_any p xs ≡ false → list_all (λ x. not (p x)) xs ≡ true
all_from_none p [] h = refl
all_from_none p (x ∷ xs) h = and_both (not (p x)) (list_all (λ y. not (p y)) xs) (ap not (or_none_left (p x) (list_any p xs) h)) (all_from_none p xs (or_none_right (p x) (list_any p xs) h))

all_both : {X : Type 0} (p q : X → Bool) (xs : List X) → list_all p xs ≡ true → list_all q xs ≡ true → list_all (λ x. p x && q x) xs ≡ true
all_both p q [] e f = refl
all_both p q (x ∷ xs) e f = and_both (p x && q x) (list_all (λ y. p y && q y) xs) (and_both (p x) (q x) (and_left (p x) (list_all p xs) e) (and_left (q x) (list_all q xs) f)) (all_both p q xs (and_right (p x) (list_all p xs) e) (and_right (q x) (list_all q xs) f))

all_first : {X : Type 0} (p q : X → Bool) (xs : List X) → list_all (λ x. p x && q x) xs ≡ true → list_all p xs ≡ true
all_first p q [] e = refl
all_first p q (x ∷ xs) e = and_both (p x) (list_all p xs) (and_left (p x) (q x) (and_left (p x && q x) (list_all (λ y. p y && q y) xs) e)) (all_first p q xs (and_right (p x && q x) (list_all (λ y. p y && q y) xs) e))

all_second : {X : Type 0} (p q : X → Bool) (xs : List X) → list_all (λ x. p x && q x) xs ≡ true → list_all q xs ≡ true
all_second p q [] e = refl
all_second p q (x ∷ xs) e = and_both (q x) (list_all q xs) (and_right (p x) (q x) (and_left (p x && q x) (list_all (λ y. p y && q y) xs) e)) (all_second p q xs (and_right (p x && q x) (list_all (λ y. p y && q y) xs) e))

all_get : {X : Type 0} (p : X → Bool) (xs : List X) (i : ℕ) (x : X) → list_all p xs ≡ true → slice_get xs i ≡ Some x → p x ≡ true
all_get p [] i x h g = cc
all_get p (y ∷ ys) zero x h g = let same : y ≡ x = cc in ap p (sym same) ∙ and_left (p y) (list_all p ys) h
all_get p (y ∷ ys) (suc i) x h g = all_get p ys i x (and_right (p y) (list_all p ys) h) g

-- a test that each member's measures pass

module _ (p : Measure → Bool) where
  added_passes : (b : Bool) (ms : List Measure) (m : Measure) → list_all p ms ≡ true → p m ≡ true → list_all p (if b then ms else (ms ++ m ∷ [])) ≡ true
  added_passes true ms m a h = a
  added_passes false ms m a h = list_all-append p ms (m ∷ []) ∙ and_both (list_all p ms) (list_all p (m ∷ [])) a (and_both (p m) true h refl)

  fold_passes : (ms ns : List Measure) → list_all p ms ≡ true → list_all p ns ≡ true → list_all p (fold with_measure ms ns) ≡ true
  fold_passes ms [] a h = a
  fold_passes ms (n ∷ ns) a h = fold_passes (with_measure ms n) ns (added_passes (list_any (measure_eq n) ms) ms n a (and_left (p n) (list_all p ns) h)) (and_right (p n) (list_all p ns) h)

  union_passes : (ms : List Measure) (qs : List Query) → list_all p ms ≡ true → list_all (λ q. list_all p q.measures) qs ≡ true → list_all p (fold (λ us q. fold with_measure us q.measures) ms qs) ≡ true
  union_passes ms [] a h = a
  union_passes ms (q ∷ qs) a h = union_passes (fold with_measure ms q.measures) qs (fold_passes ms q.measures a (and_left (list_all p q.measures) (list_all (λ r. list_all p r.measures) qs) h)) (and_right (list_all p q.measures) (list_all (λ r. list_all p r.measures) qs) h)

-- no measure is shown again

any_places : (m : Measure) (ms : List Measure) → list_any (eqb (place_of m)) (map place_of ms) ≡ list_any (measure_eq m) ms
any_places m [] = refl
any_places m (n ∷ ms) = ap (λ b. b || list_any (eqb (place_of m)) (map place_of ms)) (place_eq m n) ∙ ap (λ b. measure_eq m n || b) (any_places m ms)

abbrev IsSet : List Measure → Type 0
IsSet ms = IsDistinct eqb (map place_of ms)

added_set : (b : Bool) (ms : List Measure) (m : Measure) → list_any (measure_eq m) ms ≡ b → IsSet ms → IsSet (if b then ms else (ms ++ m ∷ []))
added_set true ms m e d = d
added_set false ms m e d = subst (IsDistinct eqb) (sym (map-append place_of ms (m ∷ []))) (IsDistinct-push nat_eq_equiv (map place_of ms) (place_of m) d (any_places m ms ∙ e))

fold_set : (ms ns : List Measure) → IsSet ms → IsSet (fold with_measure ms ns)
fold_set ms [] d = d
fold_set ms (n ∷ ns) d = fold_set (with_measure ms n) ns (added_set (list_any (measure_eq n) ms) ms n refl d)

union_set : (ms : List Measure) (qs : List Query) → IsSet ms → IsSet (fold (λ us q. fold with_measure us q.measures) ms qs)
union_set ms [] d = d
union_set ms (q ∷ qs) d = union_set (fold with_measure ms q.measures) qs (fold_set ms q.measures d)

-- over so many columns there are 385 measures

abbrev stands : ℕ → Measure → Bool
stands n m = not (list_any (nat_le n) (measured m))

column_low : (n c : ℕ) → not (nat_le n c || false) ≡ true → c < n
column_low n c h =
    let b : nat_le n c ≡ false = sym (or_left_none (nat_le n c)) ∙ not_true (nat_le n c || false) h in
    grind (arith, nat_tests, b)

place_low : (n : ℕ) (m : Measure) → n ≤ 64 → stands n m ≡ true → place_of m < 385
place_low n Rows l h = omega arith
place_low n (Count c) l h = omega (arith, l, column_low n c h)
place_low n (Sum c) l h = omega (arith, l, column_low n c h)
place_low n (Min c) l h = omega (arith, l, column_low n c h)
place_low n (Max c) l h = omega (arith, l, column_low n c h)
place_low n (Distinct c) l h = omega (arith, l, column_low n c h)
place_low n (Avg c) l h = omega (arith, l, column_low n c h)

same_number : (x y : ℕ) → eqb x y ≡ true → x ≡ y
same_number x y h = exact_numbers x y h

any_low : (n q : ℕ) (ms : List Measure) → n ≤ 64 → list_all (stands n) ms ≡ true → list_any (eqb q) (map place_of ms) ≡ true → q < 385
any_low n q [] l a h = cc
any_low n q (m ∷ ms) l a h = (elim (eqb q (place_of m)) as (λ b. eqb q (place_of m) ≡ b → q < 385) [
  | true ↦ λ e. omega (arith, same_number q (place_of m) e, place_low n m l (and_left (stands n m) (list_all (stands n) ms) a))
  | false ↦ λ e. any_low n q ms l (and_right (stands n m) (list_all (stands n) ms) a) (rw e at h)
]) refl

few : (n : ℕ) (ms : List Measure) → n ≤ 64 → list_all (stands n) ms ≡ true → IsSet ms → length ms ≤ 385
few n ms l a d =
    let within = length-le_from_distinct_below (map place_of ms) 385 d (λ q h. any_low n q ms l a h) in
    omega (arith, within, length-map ms place_of)

-- the reasons, one by one

abbrev verdict : Bool → Bool → Bool → Bool → Bool → Bool → Option Invalid
verdict a b c d e f = if a then Some invalid.Column else if b then Some invalid.RepeatedDim else if not c then Some invalid.WrongSort else if d then Some invalid.NothingShown else if e then Some invalid.OrderKey else if f then Some invalid.TooLong else None

record Passed (a b c d e f : Bool) : Type 0 where
  columns : a ≡ false
  dims : b ≡ false
  sorts : c ≡ true
  shown : d ≡ false
  order : e ≡ false
  length : f ≡ false

passed : (a b c d e f : Bool) → is_none (verdict a b c d e f) ≡ true → Passed a b c d e f
passed true b c d e f h = cc
passed false true c d e f h = cc
passed false false false d e f h = cc
passed false false true true e f h = cc
passed false false true false true f h = cc
passed false false true false false true h = cc
passed false false true false false false h = record { columns = refl; dims = refl; sorts = refl; shown = refl; order = refl; length = refl }

passing : (a b c d e f : Bool) → Passed a b c d e f → is_none (verdict a b c d e f) ≡ true
passing a b c d e f p = rw (p.columns, p.dims, p.sorts, p.shown, p.order, p.length) refl

shown_more : (d m u : ℕ) → nat_eq (d + m) 0 ≡ false → (0 < m → 0 < u) → nat_eq (d + u) 0 ≡ false
shown_more d zero u e h = let l : 0 < d = grind (arith, nat_tests, e) in grind (arith, nat_tests, l)
shown_more d (suc m) u e h = let l = h (omega arith) in grind (arith, nat_tests, l)

short_enough : (n : ℕ) → n ≤ 385 → nat_lt 512 n ≡ false
short_enough n l = grind (arith, nat_tests, l)

abbrev fits_in : List Sort → Measure → Bool
fits_in sorts m = stands (length sorts) m && measure_fits sorts m

abbrev with_measures : Query → List Measure → Query
with_measures q ms = record q { measures = ms; order = []; top = None }

-- a valid query's measures
measures_fit : (sorts : List Sort) (q : Query) → is_none (first_reason sorts q) ≡ true → list_all (fits_in sorts) q.measures ≡ true
measures_fit sorts q h =
    let n = length sorts in
    let p = passed (column_missing n q) (repeats q.dims) (sorts_fit sorts q) (shows_nothing q) (place_missing q) (too_long q) h in
    all_both (stands n) (measure_fits sorts) q.measures
    (all_from_none (λ m. list_any (nat_le n) (measured m)) q.measures (or_none_right _ _ p.columns))
    (and_right _ _ p.sorts)

-- other measures, in no order
with_valid : (sorts : List Sort) (q : Query) (ms : List Measure) → length sorts ≤ 64 → is_none (first_reason sorts q) ≡ true → list_all (fits_in sorts) ms ≡ true → IsSet ms
    → (0 < length q.measures → 0 < length ms) → is_none (first_reason sorts (with_measures q ms)) ≡ true
with_valid sorts q ms l h f d more =
    let n = length sorts in
    let k = with_measures q ms in
    let p = passed (column_missing n q) (repeats q.dims) (sorts_fit sorts q) (shows_nothing q) (place_missing q) (too_long q) h in
    let s : list_all (stands n) ms ≡ true = all_first (stands n) (measure_fits sorts) ms f in
    let c : column_missing n k ≡ false = or_none _ _ (or_none_left _ _ p.columns) (none_from_all (λ m. list_any (nat_le n) (measured m)) ms s) in
    let w : sorts_fit sorts k ≡ true = and_both _ _ (and_left _ _ p.sorts) (all_second (stands n) (measure_fits sorts) ms f) in
    let t : too_long k ≡ false = or_none _ _ (or_none _ _ (or_none _ _ (or_none_left _ _ (or_none_left _ _ (or_none_left _ _ p.length))) (short_enough (length ms) (few n ms l s d))) refl) (or_none_right _ _ p.length) in
    passing (column_missing n k) (repeats q.dims) (sorts_fit sorts k) (shows_nothing k) (place_missing k) (too_long k)
    (record { columns = c; dims = p.dims; sorts = w; shown = shown_more (length q.dims) (length q.measures) (length ms) p.shown more; order = refl; length = t })

-- at the heading of its source

known : (o : Option Heading) (q : Query) → is_none (reason_at o q) ≡ true → (h : Heading) × (o ≡ Some h)
known None q h = cc
known (Some s) q h = (s, refl)

at_heading : (schemas : List Heading) (s : Heading) (q : Query) → slice_get schemas q.source ≡ Some s → is_valid schemas q ≡ true → is_none (first_reason s.sorts q) ≡ true
at_heading schemas s q e h = rw e at h

of_heading : (schemas : List Heading) (s : Heading) (q : Query) → slice_get schemas q.source ≡ Some s → is_none (first_reason s.sorts q) ≡ true → is_valid schemas q ≡ true
of_heading schemas s q e h = rw e h

module _ (schemas : List Heading) (s : Heading) (q : Query) (at : slice_get schemas q.source ≡ Some s) where
  member_fits : (m : Query) → fuses q m ≡ true → is_valid schemas m ≡ true → list_all (fits_in s.sorts) m.measures ≡ true
  member_fits m f v =
      let e = exact_numbers q.source m.source (and_left _ _ (and_left _ _ f)) in
      measures_fit s.sorts m (at_heading schemas s m (ap (slice_get schemas) (sym e) ∙ at) v)

  members_fit : (ms : List Query) → list_all (fuses q) ms ≡ true → list_all (is_valid schemas) ms ≡ true → list_all (λ m. list_all (fits_in s.sorts) m.measures) ms ≡ true
  members_fit [] f v = refl
  members_fit (m ∷ ms) f v = and_both _ _ (member_fits m (and_left _ _ f) (and_left _ _ v)) (members_fit ms (and_right _ _ f) (and_right _ _ v))

some_shown : (us ms : List Measure) → list_all (λ m. list_any (measure_eq m) us) ms ≡ true → 0 < length ms → 0 < length us
some_shown [] [] h l = l
some_shown [] (m ∷ ms) h l = cc
some_shown (u ∷ us) ms h l = omega arith

fused_valid : (schemas : List Heading) (q : Query) (ms : List Query) → list_all is_narrow schemas ≡ true → is_valid schemas q ≡ true → list_all (fuses q) ms ≡ true → list_all (is_valid schemas) ms ≡ true
    → is_valid schemas (with_measures q (union (q ∷ ms))) ≡ true
unfolding IsDistinct
fused_valid schemas q ms narrow v f vs =
    let k = known (slice_get schemas q.source) q v in
    let s = k.0 in
    let own = at_heading schemas s q k.1 v in
    let low : length s.sorts ≤ 64 = within (length s.sorts) (all_get is_narrow schemas q.source s narrow k.1) in
    let us = union (q ∷ ms) in
    let fit = union_passes (fits_in s.sorts) [] (q ∷ ms) refl (and_both _ _ (measures_fit s.sorts q own) (members_fit schemas s q k.1 ms f vs)) in
    let has = and_left _ _ (union_has [] (q ∷ ms)) in
    of_heading schemas s (with_measures q us) k.1 (with_valid s.sorts q us low own fit (union_set [] (q ∷ ms) tt) (some_shown us q.measures has))
  where
    within : (n : ℕ) → nat_le n most_columns ≡ true → n ≤ 64
    within n h = grind (arith, nat_tests, h)

-- the groups

abbrev Placed : Type 0
Placed = ℕ × Query

mapped_all : (p : Query → Bool) (qs : List Placed) → list_all p (map (λ q. q.1) qs) ≡ list_all (λ q. p q.1) qs
mapped_all p [] = refl
mapped_all p (q ∷ qs) = ap (λ b. p q.1 && b) (mapped_all p qs)

chosen_kept : (b : Bool) (p : Placed → Bool) (q : Placed) (qs : List Placed) → p q ≡ true → list_all p qs ≡ true → list_all p (cond b (q ∷ qs) qs) ≡ true
chosen_kept true p q qs e h = and_both (p q) (list_all p qs) e h
chosen_kept false p q qs e h = h

filter_kept : (t p : Placed → Bool) (qs : List Placed) → list_all p qs ≡ true → list_all p (filter t qs) ≡ true
filter_kept t p [] h = refl
filter_kept t p (q ∷ qs) h = chosen_kept (t q) p q (filter t qs) (and_left (p q) (list_all p qs) h) (filter_kept t p qs (and_right (p q) (list_all p qs) h))

group_valid : (schemas : List Heading) (q : Placed) (qs : List Placed) → list_all is_narrow schemas ≡ true → is_valid schemas q.1 ≡ true → list_all (λ p. fuses q.1 p.1) qs ≡ true → list_all (λ p. is_valid schemas p.1) qs ≡ true
    → is_valid schemas (group_with qs q).key ≡ true
group_valid schemas q [] n v f vs = v
group_valid schemas q (p ∷ ps) n v f vs =
    fused_valid schemas q.1 (map (λ r. r.1) (p ∷ ps)) n v (mapped_all (fuses q.1) (p ∷ ps) ∙ f) (mapped_all (is_valid schemas) (p ∷ ps) ∙ vs)

all_valid : (n : ℕ) (schemas : List Heading) (qs : List Placed) → list_all is_narrow schemas ≡ true → list_all (λ p. is_valid schemas p.1) qs ≡ true → list_all (λ g. is_valid schemas g.key) (groups_from n qs) ≡ true
all_valid zero schemas qs w v = refl
all_valid (suc n) schemas [] w v = refl
all_valid (suc n) schemas (q ∷ qs) w v =
    let mine = filter (λ p. fuses q.1 p.1) qs in
    let others = filter (λ p. not (fuses q.1 p.1)) qs in
    let rest = and_right (is_valid schemas q.1) (list_all (λ p. is_valid schemas p.1) qs) v in
    and_both (is_valid schemas (group_with mine q).key) (list_all (λ g. is_valid schemas g.key) (groups_from n others))
    (group_valid schemas q mine w (and_left (is_valid schemas q.1) (list_all (λ p. is_valid schemas p.1) qs) v) (filter_all (λ p. fuses q.1 p.1) qs) (filter_kept (λ p. fuses q.1 p.1) (λ p. is_valid schemas p.1) qs rest))
    (all_valid n schemas others w (filter_kept (λ p. not (fuses q.1 p.1)) (λ p. is_valid schemas p.1) qs rest))

numbered_valid : (n : ℕ) (schemas : List Heading) (qs : List Query) → list_all (λ (p : Placed). is_valid schemas p.1) (enumerate_from n qs) ≡ list_all (is_valid schemas) qs
numbered_valid n schemas [] = refl
numbered_valid n schemas (q ∷ qs) = ap (λ b. is_valid schemas q && b) (numbered_valid (n + 1) schemas qs)

pub keys_valid : (schemas : List Heading) (queries : List Query) → list_all is_narrow schemas ≡ true → list_all (is_valid schemas) queries ≡ true → list_all (λ g. is_valid schemas g.key) (groups queries) ≡ true
keys_valid schemas queries w v = all_valid (length queries) schemas (enumerate_from 0 queries) w (numbered_valid 0 schemas queries ∙ v)
