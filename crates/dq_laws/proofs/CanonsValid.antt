-- The canonical form of a valid query is valid.
use Rattle.std.proofs.Common.{◌≡◌, ℤ, ℕ, suc, ◌+◌, ◌≤◌, Bool, true, false, not, List, [], ◌∷◌, map, length, slice_get, Option, Some, None, refl, arith}
use Rattle.std.proofs.lemmas.Bool.Decides.{nat_tests}
use Rattle.std.proofs.lemmas.List.{length-map}
use Rattle.std.specs.List.{list_all, list_any, fold}
use Rattle.std.specs.Prelude.{if◌then◌else◌, int_lt, is_none, nat_le, nat_lt}
use Rattle.std.specs.declared.cmp.Ordering.{Ordering}
use Rattle.std.specs.declared.cmp.Ordering.TheVariants.{Less, Equal, Greater}
use Rattle.dq_base.proofs.SetLaws.{Each, each_set_of}
use Rattle.dq_base.specs.Canonical.{canonical, canonical_bounds, canonical_predicate, canonical_test, predicate_cmp}
use Rattle.dq_base.specs.Headings.{Heading}
use Rattle.dq_base.specs.Orders.{value_cmp}
use Rattle.dq_base.specs.Sets.{put_by, set_of, with}
use Rattle.dq_base.specs.Validity.{column_missing, first_reason, fits_sort, is_whole, list_too_long, place_missing, reason_at, repeats, shows_nothing, sorts_fit, test_fits, too_long}
use Rattle.dq_base.specs.declared.invalid.Invalid.{Invalid}
use Rattle.dq_base.specs.declared.invalid.Invalid.TheVariants as invalid
use Rattle.dq_base.specs.declared.predicate.Predicate.{Predicate}
use Rattle.dq_base.specs.declared.predicate.Test.{Test}
use Rattle.dq_base.specs.declared.predicate.Test.TheVariants.{Among, Except, Between}
use Rattle.dq_base.specs.declared.query.Query.{Query}
use Rattle.dq_base.specs.declared.schema.Sort.{Sort}
use Rattle.dq_machine.proofs.Reached.{and_both, and_first, and_second}
use Rattle.dq_machine.specs.Preparing.{is_valid}
use Rattle.dq_laws.proofs.Over.{none_first, none_second, or_none}

-- items of sets

module _ {X : Type 0} (p : X → Bool) where
  each_all : (xs : List X) → list_all p xs ≡ true → Each (λ x. p x ≡ true) xs
  each_all [] h = tt
  each_all (x ∷ xs) h = (and_first (p x) (list_all p xs) h, each_all xs (and_second (p x) (list_all p xs) h))

  all_each : (xs : List X) → Each (λ x. p x ≡ true) xs → list_all p xs ≡ true
  all_each [] h = refl
  all_each (x ∷ xs) h = and_both (p x) (list_all p xs) h.0 (all_each xs h.1)

  each_none : (xs : List X) → list_any p xs ≡ false → Each (λ x. p x ≡ false) xs
  each_none [] h = tt
  each_none (x ∷ xs) h = (none_first (p x) (list_any p xs) h, each_none xs (none_second (p x) (list_any p xs) h))

  none_each : (xs : List X) → Each (λ x. p x ≡ false) xs → list_any p xs ≡ false
  none_each [] h = refl
  none_each (x ∷ xs) h = or_none (p x) (list_any p xs) h.0 (none_each xs h.1)

each_mapped : {X : Type 0} (P : X → Type 0) (f : X → X) → ((x : X) → P x → P (f x)) → (xs : List X) → Each P xs → Each P (map f xs)
each_mapped P f keeps [] h = tt
each_mapped P f keeps (x ∷ xs) h = (keeps x h.0, each_mapped P f keeps xs h.1)

length_put : {X : Type 0} (o : Ordering) (x y : X) (ys more : List X) → length more ≤ suc (length ys) → length (put_by o x y ys more) ≤ suc (suc (length ys))
length_put Less x y ys more le = omega arith
length_put Equal x y ys more le = omega arith
length_put Greater x y ys more le = omega (arith, le)

length_with : {X : Type 0} (cmp : X → X → Ordering) (x : X) (ys : List X) → length (with cmp x ys) ≤ suc (length ys)
length_with cmp x [] = omega arith
length_with cmp x (y ∷ ys) = length_put (cmp x y) x y ys (with cmp x ys) (length_with cmp x ys)

length_fold : {X : Type 0} (cmp : X → X → Ordering) (set xs : List X) → length (fold (λ s x. with cmp x s) set xs) ≤ length set + length xs
length_fold cmp set [] = omega arith
length_fold cmp set (x ∷ xs) = omega (arith, length_with cmp x set, length_fold cmp (with cmp x set) xs)

-- a set has no more items than the list
length_set_of : {X : Type 0} (cmp : X → X → Ordering) (xs : List X) → length (set_of cmp xs) ≤ length xs
length_set_of cmp xs = omega (arith, length_fold cmp [] xs)

no_longer : (most n m : ℕ) → n ≤ m → nat_lt most m ≡ false → nat_lt most n ≡ false
no_longer most n m le h = grind (arith, nat_tests, le, h)

-- predicates

module _ (p : Predicate → Bool) where
  all_kept : ((x : Predicate) → p x ≡ true → p (canonical_predicate x) ≡ true) → (fs : List Predicate) → list_all p fs ≡ true
      → list_all p (set_of predicate_cmp (map canonical_predicate fs)) ≡ true
  all_kept keeps fs h =
      all_each p (set_of predicate_cmp (map canonical_predicate fs))
      (each_set_of (λ x. p x ≡ true) predicate_cmp (map canonical_predicate fs) (each_mapped (λ x. p x ≡ true) canonical_predicate keeps fs (each_all p fs h)))

  none_kept : ((x : Predicate) → p x ≡ false → p (canonical_predicate x) ≡ false) → (fs : List Predicate) → list_any p fs ≡ false
      → list_any p (set_of predicate_cmp (map canonical_predicate fs)) ≡ false
  none_kept keeps fs h =
      none_each p (set_of predicate_cmp (map canonical_predicate fs))
      (each_set_of (λ x. p x ≡ false) predicate_cmp (map canonical_predicate fs) (each_mapped (λ x. p x ≡ false) canonical_predicate keeps fs (each_none p fs h)))

bounds_fit : (whole b : Bool) (low high : ℤ) → whole ≡ true → test_fits whole (if b then Among [] else Between (Some low) (Some high)) ≡ true
bounds_fit whole true low high h = refl
bounds_fit whole false low high h = h

between_fits : (whole : Bool) (low high : Option ℤ) → whole ≡ true → test_fits whole (canonical_bounds low high) ≡ true
between_fits whole None high h = h
between_fits whole (Some low) None h = h
between_fits whole (Some low) (Some high) h = bounds_fit whole (int_lt high low) low high h

test_kept : (whole : Bool) (t : Test) → test_fits whole t ≡ true → test_fits whole (canonical_test t) ≡ true
test_kept whole (Among list) h =
    all_each (fits_sort whole) (set_of value_cmp list) (each_set_of (λ v. fits_sort whole v ≡ true) value_cmp list (each_all (fits_sort whole) list h))
test_kept whole (Except list) h =
    all_each (fits_sort whole) (set_of value_cmp list) (each_set_of (λ v. fits_sort whole v ≡ true) value_cmp list (each_all (fits_sort whole) list h))
test_kept whole (Between low high) h = between_fits whole low high h

bounds_short : (b : Bool) (low high : ℤ) → list_too_long (if b then Among [] else Between (Some low) (Some high)) ≡ false
bounds_short true low high = refl
bounds_short false low high = refl

between_short : (low high : Option ℤ) → list_too_long (canonical_bounds low high) ≡ false
between_short None high = refl
between_short (Some low) None = refl
between_short (Some low) (Some high) = bounds_short (int_lt high low) low high

short_kept : (t : Test) → list_too_long t ≡ false → list_too_long (canonical_test t) ≡ false
short_kept (Among list) h = no_longer 100000 (length (set_of value_cmp list)) (length list) (length_set_of value_cmp list) h
short_kept (Except list) h = no_longer 100000 (length (set_of value_cmp list)) (length list) (length_set_of value_cmp list) h
short_kept (Between low high) h = between_short low high

fewer_filters : (fs : List Predicate) → length (set_of predicate_cmp (map canonical_predicate fs)) ≤ length fs
fewer_filters fs = omega (arith, length_set_of predicate_cmp (map canonical_predicate fs), length-map fs canonical_predicate)

-- the reasons, one by one

abbrev verdict : Bool → Bool → Bool → Bool → Bool → Bool → Option Invalid
verdict a b c d e f = if a then Some invalid.Column else if b then Some invalid.RepeatedDim else if not c then Some invalid.WrongSort else if d then Some invalid.NothingShown else if e then Some invalid.OrderKey else if f then Some invalid.TooLong else None

record Passed (a b c d e f : Bool) : Type 0 where
  columns : a ≡ false
  dims : b ≡ false
  sorts : c ≡ true
  shown : d ≡ false
  order : e ≡ false
  length : f ≡ false

passed : (a b c d e f : Bool) → is_none (verdict a b c d e f) ≡ true → Passed a b c d e f
passed true b c d e f h = cc
passed false true c d e f h = cc
passed false false false d e f h = cc
passed false false true true e f h = cc
passed false false true false true f h = cc
passed false false true false false true h = cc
passed false false true false false false h = record { columns = refl; dims = refl; sorts = refl; shown = refl; order = refl; length = refl }

passing : (a b c d e f : Bool) → Passed a b c d e f → is_none (verdict a b c d e f) ≡ true
passing a b c d e f p = rw (p.columns, p.dims, p.sorts, p.shown, p.order, p.length) refl

module _ (sorts : List Sort) (q : Query) where
  columns_kept : column_missing (length sorts) q ≡ false → column_missing (length sorts) (canonical q) ≡ false
  columns_kept h =
      let n = length sorts in
      let both = none_first _ _ h in
      or_none _ _ (or_none _ _ (none_kept (λ p. nat_le n p.column) (λ p out. out) q.filters (none_first _ _ both)) (none_second _ _ both)) (none_second _ _ h)

  sorts_kept : sorts_fit sorts q ≡ true → sorts_fit sorts (canonical q) ≡ true
  sorts_kept h =
      let both = and_first _ _ h in
      and_both _ _
      (and_both _ _ (all_kept (λ p. test_fits (is_whole sorts p.column) p.test) (λ p fits. test_kept (is_whole sorts p.column) p.test fits) q.filters (and_first _ _ both))
      (and_second _ _ both))
      (and_second _ _ h)

  length_kept : too_long q ≡ false → too_long (canonical q) ≡ false
  length_kept h =
      let lists = none_second _ _ h in
      let four = none_first _ _ h in
      let three = none_first _ _ four in
      let two = none_first _ _ three in
      or_none _ _
      (or_none _ _ (or_none _ _ (or_none _ _ (no_longer 16 _ _ (fewer_filters q.filters) (none_first _ _ two)) (none_second _ _ two)) (none_second _ _ three)) (none_second _ _ four))
      (none_kept (λ p. list_too_long p.test) (λ p short. short_kept p.test short) q.filters lists)

  reasons_kept : is_none (first_reason sorts q) ≡ true → is_none (first_reason sorts (canonical q)) ≡ true
  reasons_kept h =
      let n = length sorts in
      let p = passed (column_missing n q) (repeats q.dims) (sorts_fit sorts q) (shows_nothing q) (place_missing q) (too_long q) h in
      let c : Query = canonical q in
      passing (column_missing n c) (repeats q.dims) (sorts_fit sorts c) (shows_nothing q) (place_missing q) (too_long c)
      (record { columns = columns_kept p.columns; dims = p.dims; sorts = sorts_kept p.sorts; shown = p.shown; order = p.order; length = length_kept p.length })

valid_at : (o : Option Heading) (q : Query) → is_none (reason_at o q) ≡ true → is_none (reason_at o (canonical q)) ≡ true
valid_at None q h = h
valid_at (Some heading) q h = reasons_kept heading.sorts q h

pub canonical_valid : (schemas : List Heading) (q : Query) → is_valid schemas q ≡ true → is_valid schemas (canonical q) ≡ true
canonical_valid schemas q h = valid_at (slice_get schemas q.source) q h
