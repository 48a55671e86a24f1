-- The rows that are derived from an answer are those of the other query's answer.
use Rattle.std.proofs.Common.{◌≡◌, ℕ, suc, pos, ◌+◌, ◌-◌, Bool, true, false, ◌||◌, ◌&&◌, cond, List, [], ◌∷◌, ◌++◌, map, length, ◌⊎◌, inl, inr, refl, sym, ap, ◌∙◌, Some, None, arith}
use Rattle.std.specs.Prelude.{slice_get, is_none}
use Rattle.std.specs.List.{filter, fold, list_all, list_any}
use Rattle.std.specs.Ordering.{is_eq}
use Rattle.std.proofs.lemmas.Cmp.{eq_by_cmp_equiv}
use Rattle.dq_base.specs.Answers.{answer, average_of, cell_of, count_cell, first_rows, fold_of, greatest_of, group_row, is_present, key_of, keys, keys_of, least_of, plain, present, row_cmp, rows_with, sum_of, total, value_in}
use Rattle.dq_base.specs.Covering.{all_in_dims, checkable, covers, implied, makes, query_eq, same_dims}
use Rattle.dq_base.specs.Dims.{Dimension, dim_eq}
use Rattle.dq_base.specs.Dims.{plain as plain_of}
use Rattle.dq_base.specs.Filters.{keeps, kept, value_at}
use Rattle.dq_base.specs.Orders.{key_cmp, value_cmp}
use Rattle.dq_base.specs.Sets.{ascending, has, set_of, with}
use Rattle.dq_base.specs.ValueOrder.{value_cmp_total}
use Rattle.dq_base.proofs.Exact.{exact_keys, exact_values}
use Rattle.dq_base.proofs.SetLaws.{Each, ascends_set_of}
use Rattle.dq_base.proofs.SetTests.{any_set_of}
use Rattle.dq_base.specs.declared.value.Value.{Value}
use Rattle.dq_base.specs.declared.value.Value.TheVariants as value
use Rattle.dq_base.specs.declared.cell.Cell.{Cell}
use Rattle.dq_base.specs.declared.cell.Cell.TheVariants as cell
use Rattle.dq_base.specs.declared.query.Measure.{Measure}
use Rattle.dq_base.specs.declared.query.Measure.TheVariants as measure
use Rattle.dq_base.specs.declared.query.Query.{Query}
use Rattle.dq_cover.proofs.CoverLaws.{and_left, and_right, exact_dims, exact_queries, or_cases}
use Rattle.dq_fold.specs.Tallies.{greatest, least}
use Rattle.dq_fold.proofs.Grouped.{ascends_keys, keys_total}
use Rattle.dq_rollup.specs.declared.key.Made.{Made}
use Rattle.dq_rollup.specs.declared.source.Part.{Part}
use Rattle.dq_rollup.specs.declared.source.Part.TheVariants.{Shown, Keyed}
use Rattle.dq_rollup.specs.declared.source.Source.{Source}
use Rattle.dq_rollup.specs.declared.source.Source.TheVariants.{Count, Sum, Least, Greatest, Different, Average}
use Rattle.dq_rollup.specs.Derived.{IsDerived, Plan, average_cell, cell_over, derived, derived_row, different_in, greatest_in, group_of, is_kept, keys_by, keys_in, least_in, sum_cell, total_count, total_sum, value_cell, with_some}
use Rattle.dq_rollup.specs.Keys.{IsMade, IsPlaced, made_key, passes}
use Rattle.dq_rollup.specs.Pairs.{Paired}
use Rattle.dq_rollup.specs.Reading.{cell_in, counted, higher, lower, number_in, plus_sum, some_value, summed, value_of}
use Rattle.dq_rollup.specs.Sources.{IsCounts, IsKey, IsShown, IsSource, IsSums}
use Rattle.dq_rollup.proofs.Adding.{any_big, count_big, counts, greatest_big, highs, least_big, lows, one_count, one_sum, rows_big, sum_big, sum_over, sums, tests}
use Rattle.dq_rollup.proofs.Big.{Adds, big, big_ascending, big_filter, big_map, big_same, big_unit, fold_big, partition, point, same_from}
use Rattle.dq_rollup.proofs.Cells.{made_key_row, passes_row}
use Rattle.dq_rollup.proofs.Extents.{same_lists}
use Rattle.dq_rollup.proofs.Grouping.{filter_twice}
use Rattle.dq_rollup.proofs.Keyed.{IsReal, any_mapped, each_then, has_row, keys_complete, keys_filled, keys_real}
use Rattle.dq_rollup.proofs.Readings.{any_keyed, any_row, counts_read, greatest_read, least_read, shown, sums_read}
use Rattle.dq_rollup.proofs.Sound.{checked, keeps_split}

filter_alike : {X : Type 0} (s t : X → Bool) → ((x : X) → s x ≡ t x) → (xs : List X) → filter s xs ≡ filter t xs
filter_alike s t h [] = refl
filter_alike s t h (x ∷ xs) = ap (λ b. cond b (x ∷ filter s xs) (filter s xs)) (h x) ∙ ap (λ ys. cond (t x) (x ∷ ys) ys) (filter_alike s t h xs)

and_assoc : (a b c : Bool) → ((a && b) && c) ≡ (a && (b && c))
and_assoc true b c = refl
and_assoc false b c = refl

both_ways : (a b : Bool) → (a ≡ true → b ≡ true) → (b ≡ true → a ≡ true) → a ≡ b
both_ways true b f g = sym (f refl)
both_ways false true f g = g refl
both_ways false false f g = refl

when : (b : Bool) (m n : ℕ) → (b ≡ true → m ≡ n) → cond b m 0 ≡ cond b n 0
when true m n h = h refl
when false m n h = refl

nothing_by : (b : Bool) (n : ℕ) → cond b n n ≡ n
nothing_by true n = refl
nothing_by false n = refl

-- a dimension that is also in another list has equal values where those do
value_from : (d : Dimension) (qs : List Dimension) (y z : List Value) → list_any (dim_eq d) qs ≡ true → key_of qs y ≡ key_of qs z → value_in y d ≡ value_in z d
value_from d [] y z h e = cc
value_from d (x ∷ qs) y z h e =
    elim (or_cases (dim_eq d x) (list_any (dim_eq d) qs) h) [
      | inl a ↦ let here : value_in y x ≡ value_in z x = cc in ap (value_in y) (exact_dims d x a) ∙ here ∙ ap (value_in z) (sym (exact_dims d x a))
      | inr a ↦ let rest : key_of qs y ≡ key_of qs z = cc in value_from d qs y z a rest
    ]

keys_from : (ds qs : List Dimension) (y z : List Value) → all_in_dims ds qs ≡ true → key_of qs y ≡ key_of qs z → key_of ds y ≡ key_of ds z
keys_from [] qs y z h e = refl
keys_from (d ∷ ds) qs y z h e =
    ap (λ v. v ∷ key_of ds y) (value_from d qs y z (and_left (list_any (dim_eq d) qs) _ h) e) ∙ ap (λ vs. value_in z d ∷ vs) (keys_from ds qs y z (and_right (list_any (dim_eq d) qs) _ h) e)

same_keys : (p q : Query) → same_dims p q ≡ true → (y z : List Value) → key_of q.dims y ≡ key_of q.dims z → key_of p.dims z ≡ key_of p.dims y
same_keys p q h y z e = sym (keys_from p.dims q.dims y z (and_left (all_in_dims p.dims q.dims) _ h) e)

first_step : {X : Type 0} (b : Bool) (s t : X → Bool) (x y : X) (rest ys : List X) → t x ≡ b → cond b (x ∷ rest) rest ≡ y ∷ ys → s x ≡ true → (rest ≡ y ∷ ys → (t y ≡ true) × (s y ≡ true)) → (t y ≡ true) × (s y ≡ true)
first_step true s t x y rest ys e h sx r = let same : x ≡ y = cc in (ap t (sym same) ∙ e, ap s (sym same) ∙ sx)
first_step false s t x y rest ys e h sx r = r h

kept_first : {X : Type 0} (s t : X → Bool) (xs : List X) (y : X) (ys : List X) → filter t xs ≡ y ∷ ys → list_all s xs ≡ true → (t y ≡ true) × (s y ≡ true)
kept_first s t [] y ys e a = cc
kept_first s t (x ∷ xs) y ys e a = first_step (t x) s t x y (filter t xs) ys refl e (and_left (s x) _ a) (λ r. kept_first s t xs y ys r (and_right (s x) _ a))

-- cells of measures
sum_again : (vs : List Value) → sum_cell (sum_over vs) ≡ sum_of vs
sum_again [] = refl
sum_again (v ∷ vs) = refl

least_again : (vs : List Value) → value_cell (least vs) ≡ least_of vs
least_again [] = refl
least_again (v ∷ vs) = refl

greatest_again : (vs : List Value) → value_cell (greatest vs) ≡ greatest_of vs
greatest_again [] = refl
greatest_again (v ∷ vs) = refl

average_again : (vs : List Value) → average_cell (sum_over vs) (length vs) ≡ average_of vs
average_again [] = refl
average_again (v ∷ vs) = let e : suc (length vs) - 1 ≡ length vs = omega arith in ap (λ n. cell.Ratio (record { sum = total (v ∷ vs); others = n })) e

with_step : (v : Value) (set : List Value) (vs : List Value) → fold (λ s x. with value_cmp x s) (with_some (some_value v) set) vs ≡ fold (λ s x. with value_cmp x s) set (cond (is_present v) (v ∷ vs) vs)
with_step value.Null set vs = refl
with_step (value.Int n) set vs = refl
with_step (value.Word t) set vs = refl

different_set : (read : List Cell → Value) (set : List Value) (held : List (List Cell)) → fold (λ s row. with_some (some_value (read row)) s) set held ≡ fold (λ s x. with value_cmp x s) set (filter is_present (map read held))
different_set read set [] = refl
different_set read set (row ∷ held) = different_set read (with_some (some_value (read row)) set) held ∙ with_step (read row) set (filter is_present (map read held))

read_step : (t : Value → Bool) (b : Bool) (v : Value) (vs : List Value) → list_any t (cond b (v ∷ vs) vs) ≡ ((b && t v) || list_any t vs)
read_step t true v vs = refl
read_step t false v vs = refl

any_read : (t : Value → Bool) (read : List Cell → Value) (held : List (List Cell)) → list_any t (filter is_present (map read held)) ≡ big ◌||◌ false (λ row. is_present (read row) && t (read row)) held
any_read t read [] = refl
any_read t read (row ∷ held) = read_step t (is_present (read row)) (read row) (filter is_present (map read held)) ∙ ap (λ b. (is_present (read row) && t (read row)) || b) (any_read t read held)

left_by : {X : Type 0} (a b : Bool) (u : X → Bool) (x : X) (kept : List X) (rest : List X) → u x ≡ b → list_any u kept ≡ big ◌||◌ false (λ (y : X). true) rest → list_any u (cond a (x ∷ kept) kept) ≡ big ◌||◌ false (λ (y : X). true) (cond (a && b) (x ∷ rest) rest)
left_by true true u x kept rest e h = ap (λ c. c || list_any u kept) e
left_by true false u x kept rest e h = ap (λ c. c || list_any u kept) e ∙ h
left_by false b u x kept rest e h = h

any_left : {X : Type 0} (u g : X → Bool) (xs : List X) → list_any u (filter g xs) ≡ big ◌||◌ false (λ (x : X). true) (filter (λ x. g x && u x) xs)
any_left u g [] = refl
any_left u g (x ∷ xs) = left_by (g x) (u x) u x (filter g xs) (filter (λ y. g y && u y) xs) refl (any_left u g xs)

one_by : {X : Type 0} (b : Bool) (x : X) (any : Bool) (rest : List X) → any ≡ big ◌||◌ false (λ (y : X). true) rest → (b || any) ≡ big ◌||◌ false (λ (y : X). true) (cond b (x ∷ rest) rest)
one_by true x any rest h = refl
one_by false x any rest h = h

any_one : {X : Type 0} (u : X → Bool) (xs : List X) → list_any u xs ≡ big ◌||◌ false (λ (x : X). true) (filter u xs)
any_one u [] = refl
any_one u (x ∷ xs) = one_by (u x) x (list_any u xs) (filter u xs) (any_one u xs)

-- a group of p's rows: its key, and, where there is some dimension, a row
record IsGroup (p : Query) (rows : List (List Value)) (k : List Value) : Type 0 where
  real : IsReal p.dims k
  filled : (i : ℕ) (d : Dimension) → slice_get p.dims i ≡ Some d → has_row p.dims rows k ≡ true

each_two : {X : Type 0} (A B : X → Type 0) (xs : List X) → Each A xs → Each B xs → Each (λ x. A x × B x) xs
each_two A B [] a b = tt
each_two A B (x ∷ xs) a b = ((a.0, b.0), each_two A B xs a.1 b.1)

none_there : (i : ℕ) (d : Dimension) → slice_get [] i ≡ Some d → ⊥
none_there i d e = cc

groups_by_dims : (ds : List Dimension) (p : Query) (rows : List (List Value)) → p.dims ≡ ds → Each (IsGroup p rows) (keys_of p.dims rows)
groups_by_dims [] p rows e =
    each_then (IsReal p.dims) (IsGroup p rows) (λ k r. record { real = r; filled = λ i d g. absurd (none_there i d (sym (ap (λ ds. slice_get ds i) e) ∙ g)) }) (keys_of p.dims rows) (keys_real p.dims rows)
groups_by_dims (x ∷ ds) p rows e =
    each_then (λ k. IsReal p.dims k × (has_row p.dims rows k ≡ true)) (IsGroup p rows) (λ k r. record { real = r.0; filled = λ i d g. r.1 }) (keys_of p.dims rows)
    (each_two (IsReal p.dims) (λ k. has_row p.dims rows k ≡ true) (keys_of p.dims rows) (keys_real p.dims rows) (keys_filled p.dims rows 0 x (ap (λ ds. slice_get ds 0) e)))

all_groups : (p : Query) (rows : List (List Value)) → Each (IsGroup p rows) (keys_of p.dims rows)
all_groups p rows = groups_by_dims p.dims p rows refl

module _ (p q : Query) (rows : List (List Value)) (filters : list_all (implied q) p.filters ≡ true) (checks : list_all (checkable p) q.filters ≡ true) (plan : Plan) (made : Paired (IsMade p.dims) q.dims plan.made) (same_filters : plan.filters ≡ q.filters) (places : Paired (IsPlaced p.dims) q.filters plan.places) where
  abbrev theirs : List (List Value)
  theirs = kept p rows

  abbrev ks : List (List Value)
  ks = keys_of p.dims theirs

  is_kept_row : (row : List Value) (ms : List Cell) → is_kept plan (map cell_of (key_of p.dims row) ++ ms) ≡ list_all (checked p row) q.filters
  is_kept_row row ms = ap (λ fs. passes fs plan.places (map cell_of (key_of p.dims row) ++ ms)) same_filters ∙ passes_row p row ms q.filters plan.places places

  made_row : (row : List Value) (ms : List Cell) → made_key plan.made (map cell_of (key_of p.dims row) ++ ms) ≡ key_of q.dims row
  made_row row ms = made_key_row p.dims row ms q.dims plan.made made

  module _ (key : List Value) where
    -- whether a held row belongs to the key
    abbrev belongs : List Cell → Bool
    belongs row = is_kept plan row && is_eq (key_cmp key (made_key plan.made row))

    abbrev ok : List Value → Bool
    ok k = belongs (map cell_of k ++ [])

    abbrev ok_row : List Value → Bool
    ok_row row = list_all (checked p row) q.filters && is_eq (key_cmp key (key_of q.dims row))

    belongs_row : (row : List Value) (ms : List Cell) → belongs (map cell_of (key_of p.dims row) ++ ms) ≡ ok_row row
    belongs_row row ms = ap (λ b. b && is_eq (key_cmp key (made_key plan.made (map cell_of (key_of p.dims row) ++ ms)))) (is_kept_row row ms) ∙ ap (λ k. list_all (checked p row) q.filters && is_eq (key_cmp key k)) (made_row row ms)

    belongs_key : (k : List Value) (ms : List Cell) → IsReal p.dims k → belongs (map cell_of k ++ ms) ≡ ok k
    belongs_key k ms r = ap (λ x. belongs (map cell_of x ++ ms)) r.key ∙ belongs_row r.row ms ∙ sym (belongs_row r.row []) ∙ ap ok (sym r.key)

    row_belongs : (row : List Value) → (keeps q row && is_eq (key_cmp key (key_of q.dims row))) ≡ (keeps p row && ok (key_of p.dims row))
    row_belongs row =
        ap (λ b. b && is_eq (key_cmp key (key_of q.dims row))) (keeps_split p q row filters checks)
        ∙ and_assoc (keeps p row) (list_all (checked p row) q.filters) (is_eq (key_cmp key (key_of q.dims row)))
        ∙ ap (λ b. keeps p row && b) (sym (belongs_row row []))

    abbrev ours : List (List Value)
    ours = rows_with q.dims key (kept q rows)

    ours_are : filter (λ row. ok (key_of p.dims row)) theirs ≡ ours
    ours_are =
        filter_twice (λ row. ok (key_of p.dims row)) (keeps p) rows
        ∙ sym (filter_twice (λ row. is_eq (key_cmp key (key_of q.dims row))) (keeps q) rows ∙ filter_alike _ _ row_belongs rows)

    module _ {M : Type 0} (op : M → M → M) (unit : M) (l : Adds op unit) where
      -- what is added over the groups is what is added over the rows
      over_rows : (h : List Value → M) → big op unit (λ k. cond (ok k) (big op unit h (rows_with p.dims k theirs)) unit) ks ≡ big op unit h ours
      over_rows h =
          partition op unit l key_cmp keys_total exact_keys (key_of p.dims) h ok ks (ascends_keys p.dims theirs) theirs (keys_complete p.dims theirs)
          ∙ sym (big_filter op unit l h (λ row. ok (key_of p.dims row)) theirs)
          ∙ ap (big op unit h) ours_are

      over_groups : (held : List (List Cell)) → held ≡ ascending (row_cmp p) (plain p rows) → (read : List Cell → M)
          → big op unit read (filter belongs held) ≡ big op unit (λ k. cond (belongs (group_row p theirs k)) (read (group_row p theirs k)) unit) ks
      over_groups held e read =
          big_filter op unit l read belongs held
          ∙ ap (big op unit (λ row. cond (belongs row) (read row) unit)) e
          ∙ big_ascending op unit l (λ row. cond (belongs row) (read row) unit) (row_cmp p) (plain p rows)
          ∙ big_map op unit (λ row. cond (belongs row) (read row) unit) (group_row p theirs) ks

      read_all : (held : List (List Cell)) → held ≡ ascending (row_cmp p) (plain p rows) → (read : List Cell → M) (h : List Value → M)
          → ((k : List Value) → IsGroup p theirs k → read (group_row p theirs k) ≡ big op unit h (rows_with p.dims k theirs))
          → big op unit read (filter belongs held) ≡ big op unit h ours
      read_all held e read h reads =
          over_groups held e read
          ∙ big_same op unit _ _ ks (each_then (IsGroup p theirs) (λ k. cond (belongs (group_row p theirs k)) (read (group_row p theirs k)) unit ≡ cond (ok k) (big op unit h (rows_with p.dims k theirs)) unit)
          (λ k g. ap (λ b. cond b (read (group_row p theirs k)) unit) (belongs_key k (map (λ m. fold_of m (rows_with p.dims k theirs)) p.measures) g.real) ∙ ap (λ m. cond (ok k) m unit) (reads k g))
          ks (all_groups p theirs))
          ∙ over_rows h

      fold_all : (held : List (List Cell)) → held ≡ ascending (row_cmp p) (plain p rows) → (read : List Cell → M) (h : List Value → M)
          → ((k : List Value) → IsGroup p theirs k → read (group_row p theirs k) ≡ big op unit h (rows_with p.dims k theirs))
          → fold (λ s row. op s (read row)) unit (filter belongs held) ≡ big op unit h ours
      fold_all held e read h reads = fold_big op unit l read (filter belongs held) ∙ read_all held e read h reads

    key_here : (y : List Value) → ok (key_of p.dims y) ≡ true → key ≡ key_of q.dims y
    key_here y e = same_from ◌+◌ 0 counts key_cmp keys_total exact_keys key (key_of q.dims y) (and_right (list_all (checked p y) q.filters) _ (sym (belongs_row y []) ∙ e))

    -- where the dimensions are the same set, one key of p's belongs to the key
    module _ (alike : same_dims p q ≡ true) where
      one_key : (y z : List Value) → ok (key_of p.dims z) ≡ true → ok (key_of p.dims y) ≡ is_eq (key_cmp (key_of p.dims y) (key_of p.dims z))
      one_key y z e =
          both_ways (ok (key_of p.dims y)) (is_eq (key_cmp (key_of p.dims y) (key_of p.dims z)))
          (λ f. sym (ap (λ k. is_eq (key_cmp (key_of p.dims y) k)) (same_keys p q alike z y (sym (key_here z e) ∙ key_here y f))) ∙ (eq_by_cmp_equiv keys_total).refl (key_of p.dims y))
          (λ f. ap ok (same_from ◌+◌ 0 counts key_cmp keys_total exact_keys (key_of p.dims y) (key_of p.dims z) f) ∙ e)

      own_rows : (k : List Value) → IsReal p.dims k → ok k ≡ true → rows_with p.dims k theirs ≡ ours
      own_rows k r e =
          let here : ok (key_of p.dims r.row) ≡ true = ap ok (sym r.key) ∙ e in
          filter_alike (λ row. is_eq (key_cmp k (key_of p.dims row))) (λ row. ok (key_of p.dims row))
          (λ row. ap (λ x. is_eq (key_cmp x (key_of p.dims row))) r.key ∙ (eq_by_cmp_equiv keys_total).symm (key_of p.dims r.row) (key_of p.dims row) ∙ sym (one_key row r.row here)) theirs
          ∙ ours_are

      nothing : (n : ℕ) (all : List (List Value)) → Each (λ k. cond (ok k) n n ≡ n) all
      nothing n [] = tt
      nothing n (k ∷ all) = (nothing_by (ok k) n, nothing n all)

      -- a number that the rows have alone is had once
      once_by : (m : ℕ) (left : List (List Value)) → filter (λ row. ok (key_of p.dims row)) theirs ≡ left → (left ≡ [] → m ≡ 0) → big ◌+◌ 0 (λ k. cond (ok k) m 0) ks ≡ m
      once_by m [] e z = ap (λ n. big ◌+◌ 0 (λ k. cond (ok k) n 0) ks) (z refl) ∙ big_same ◌+◌ 0 (λ k. cond (ok k) 0 0) (λ k. 0) ks (nothing 0 ks) ∙ big_unit ◌+◌ 0 counts ks ∙ sym (z refl)
      once_by m (y ∷ ys) e z =
          let first = kept_first (λ row. has key_cmp ks (key_of p.dims row)) (λ row. ok (key_of p.dims row)) theirs y ys e (keys_complete p.dims theirs) in
          big_same ◌+◌ 0 (λ k. cond (ok k) m 0) (λ k. cond (is_eq (key_cmp k (key_of p.dims y))) m 0) ks
          (each_then (IsReal p.dims) (λ k. cond (ok k) m 0 ≡ cond (is_eq (key_cmp k (key_of p.dims y))) m 0)
          (λ k r. ap (λ b. cond b m 0) (ap ok r.key ∙ one_key r.row y first.0 ∙ ap (λ x. is_eq (key_cmp x (key_of p.dims y))) (sym r.key))) ks (keys_real p.dims theirs))
          ∙ point ◌+◌ 0 counts key_cmp keys_total exact_keys (key_of p.dims y) m ks (ascends_keys p.dims theirs)
          ∙ ap (λ b. cond b m 0) first.1

    module _ (held : List (List Cell)) (is_held : held ≡ ascending (row_cmp p) (plain p rows)) where
      abbrev group : List (List Cell)
      group = filter belongs held

      rows_are : (i : ℕ) → IsShown p measure.Rows i → total_count (Shown i) group ≡ length ours
      rows_are i s =
          fold_all ◌+◌ 0 counts held is_held (counted (Shown i)) (λ row. 1)
          (λ k g. ap number_in (shown p theirs k g.real measure.Rows i s) ∙ rows_big 0 (rows_with p.dims k theirs))
          ∙ sym (rows_big 0 ours)

      count_is : (c : ℕ) (part : Part) → IsCounts p c part → total_count part group ≡ length (present c ours)
      count_is c part s = fold_all ◌+◌ 0 counts held is_held (counted part) (λ row. one_count (value_at row c)) (λ k g. counts_read p theirs k g.real c part s) ∙ sym (count_big c ours)

      sum_is : (c : ℕ) (part : Part) → IsSums p c part → total_sum part group ≡ sum_over (present c ours)
      sum_is c part s = fold_all plus_sum None sums held is_held (summed part) (λ row. one_sum (value_at row c)) (λ k g. sums_read p theirs k g.real g.filled c part s) ∙ sym (sum_big c ours)

      least_is : (c i : ℕ) → IsShown p (measure.Min c) i ⊎ IsKey p c i → least_in i group ≡ least (present c ours)
      least_is c i s =
          fold_all lower None lows held is_held (λ row. some_value (value_of (cell_in row i))) (λ row. some_value (value_at row c)) (λ k g. least_read p theirs k g.real g.filled c i s) ∙ sym (least_big c ours)

      greatest_is : (c i : ℕ) → IsShown p (measure.Max c) i ⊎ IsKey p c i → greatest_in i group ≡ greatest (present c ours)
      greatest_is c i s =
          fold_all higher None highs held is_held (λ row. some_value (value_of (cell_in row i))) (λ row. some_value (value_at row c)) (λ k g. greatest_read p theirs k g.real g.filled c i s) ∙ sym (greatest_big c ours)

      different_is : (c i : ℕ) → IsKey p c i → different_in i group ≡ set_of value_cmp (present c ours)
      different_is c i s =
          different_set (λ row. value_of (cell_in row i)) [] group
          ∙ same_lists value_cmp value_cmp_total exact_values (set_of value_cmp (filter is_present (map (λ row. value_of (cell_in row i)) group))) (set_of value_cmp (present c ours))
          (ascends_set_of value_cmp value_cmp_total (filter is_present (map (λ row. value_of (cell_in row i)) group))) (ascends_set_of value_cmp value_cmp_total (present c ours))
          (λ v.
          any_set_of (λ y. is_eq (value_cmp v y)) value_cmp exact_values (filter is_present (map (λ row. value_of (cell_in row i)) group))
          ∙ any_read (λ y. is_eq (value_cmp v y)) (λ row. value_of (cell_in row i)) group
          ∙ read_all ◌||◌ false tests held is_held (λ row. is_present (value_of (cell_in row i)) && is_eq (value_cmp v (value_of (cell_in row i)))) (λ row. is_present (value_at row c) && is_eq (value_cmp v (value_at row c)))
          (λ k g. any_keyed p theirs k g.real (g.filled i (plain_of c) s) (λ y. is_present y && is_eq (value_cmp v y)) c i s)
          ∙ sym (any_big c (λ y. is_eq (value_cmp v y)) ours)
          ∙ sym (any_set_of (λ y. is_eq (value_cmp v y)) value_cmp exact_values (present c ours)))

      own_is : (c i : ℕ) → IsShown p (measure.Distinct c) i → same_dims p q ≡ true → total_count (Shown i) group ≡ length (set_of value_cmp (present c ours))
      own_is c i s alike =
          let n : List (List Value) → ℕ = λ rs. length (set_of value_cmp (present c rs)) in
          fold_big ◌+◌ 0 counts (counted (Shown i)) group
          ∙ over_groups ◌+◌ 0 counts held is_held (counted (Shown i))
          ∙ big_same ◌+◌ 0 _ (λ k. cond (ok k) (n ours) 0) ks
          (each_then (IsReal p.dims) (λ k. cond (belongs (group_row p theirs k)) (counted (Shown i) (group_row p theirs k)) 0 ≡ cond (ok k) (n ours) 0)
          (λ k r.
          ap (λ b. cond b (counted (Shown i) (group_row p theirs k)) 0) (belongs_key k (map (λ m. fold_of m (rows_with p.dims k theirs)) p.measures) r)
          ∙ ap (λ m. cond (ok k) m 0) (ap number_in (shown p theirs k r (measure.Distinct c) i s))
          ∙ when (ok k) (n (rows_with p.dims k theirs)) (n ours) (λ e. ap n (own_rows alike k r e)))
          ks (keys_real p.dims theirs))
          ∙ once_by alike (n ours) ours ours_are (λ e. ap n e)

      cell_is : (m : Measure) (s : Source) → IsSource p q m s → cell_over group s ≡ fold_of m ours
      cell_is measure.Rows (Count (Shown i)) h = ap (λ n. cell.Whole (pos n)) (rows_are i h)
      cell_is measure.Rows (Count (Keyed i j)) h = absurd h
      cell_is measure.Rows (Sum part) h = absurd h
      cell_is measure.Rows (Least i) h = absurd h
      cell_is measure.Rows (Greatest i) h = absurd h
      cell_is measure.Rows (Different i) h = absurd h
      cell_is measure.Rows (Average t u) h = absurd h
      cell_is (measure.Count c) (Count part) h = ap (λ n. cell.Whole (pos n)) (count_is c part h)
      cell_is (measure.Count c) (Sum part) h = absurd h
      cell_is (measure.Count c) (Least i) h = absurd h
      cell_is (measure.Count c) (Greatest i) h = absurd h
      cell_is (measure.Count c) (Different i) h = absurd h
      cell_is (measure.Count c) (Average t u) h = absurd h
      cell_is (measure.Sum c) (Count part) h = absurd h
      cell_is (measure.Sum c) (Sum part) h = ap sum_cell (sum_is c part h) ∙ sum_again (present c ours)
      cell_is (measure.Sum c) (Least i) h = absurd h
      cell_is (measure.Sum c) (Greatest i) h = absurd h
      cell_is (measure.Sum c) (Different i) h = absurd h
      cell_is (measure.Sum c) (Average t u) h = absurd h
      cell_is (measure.Min c) (Count part) h = absurd h
      cell_is (measure.Min c) (Sum part) h = absurd h
      cell_is (measure.Min c) (Least i) h = ap value_cell (least_is c i h) ∙ least_again (present c ours)
      cell_is (measure.Min c) (Greatest i) h = absurd h
      cell_is (measure.Min c) (Different i) h = absurd h
      cell_is (measure.Min c) (Average t u) h = absurd h
      cell_is (measure.Max c) (Count part) h = absurd h
      cell_is (measure.Max c) (Sum part) h = absurd h
      cell_is (measure.Max c) (Least i) h = absurd h
      cell_is (measure.Max c) (Greatest i) h = ap value_cell (greatest_is c i h) ∙ greatest_again (present c ours)
      cell_is (measure.Max c) (Different i) h = absurd h
      cell_is (measure.Max c) (Average t u) h = absurd h
      cell_is (measure.Distinct c) (Count (Shown i)) h = ap (λ n. cell.Whole (pos n)) (own_is c i h.0 h.1)
      cell_is (measure.Distinct c) (Count (Keyed i j)) h = absurd h.0
      cell_is (measure.Distinct c) (Sum part) h = absurd h
      cell_is (measure.Distinct c) (Least i) h = absurd h
      cell_is (measure.Distinct c) (Greatest i) h = absurd h
      cell_is (measure.Distinct c) (Different i) h = ap (λ (vs : List Value). count_cell vs) (different_is c i h)
      cell_is (measure.Distinct c) (Average t u) h = absurd h
      cell_is (measure.Avg c) (Count part) h = absurd h
      cell_is (measure.Avg c) (Sum part) h = absurd h
      cell_is (measure.Avg c) (Least i) h = absurd h
      cell_is (measure.Avg c) (Greatest i) h = absurd h
      cell_is (measure.Avg c) (Different i) h = absurd h
      cell_is (measure.Avg c) (Average t u) h = ap (λ s. average_cell s (total_count u group)) (sum_is c t h.0) ∙ ap (average_cell (sum_over (present c ours))) (count_is c u h.1) ∙ average_again (present c ours)

      cells_are : (ms : List Measure) (ss : List Source) → Paired (IsSource p q) ms ss → map (cell_over group) ss ≡ map (λ m. fold_of m ours) ms
      cells_are [] [] h = refl
      cells_are [] (s ∷ ss) h = absurd h
      cells_are (m ∷ ms) [] h = absurd h
      cells_are (m ∷ ms) (s ∷ ss) h = ap (λ x. x ∷ map (cell_over group) ss) (cell_is m s h.0) ∙ ap (λ xs. fold_of m ours ∷ xs) (cells_are ms ss h.1)

  module _ (held : List (List Cell)) (is_held : held ≡ ascending (row_cmp p) (plain p rows)) where
    sets_are : (i : ℕ) (d : Dimension) → slice_get p.dims i ≡ Some d → set_of key_cmp (map (made_key plan.made) (filter (is_kept plan) held)) ≡ set_of key_cmp (map (key_of q.dims) (kept q rows))
    sets_are i d there =
        let xs = map (made_key plan.made) (filter (is_kept plan) held) in
        let ys = map (key_of q.dims) (kept q rows) in
        same_lists key_cmp keys_total exact_keys (set_of key_cmp xs) (set_of key_cmp ys) (ascends_set_of key_cmp keys_total xs) (ascends_set_of key_cmp keys_total ys)
        (λ key.
        any_set_of (λ y. is_eq (key_cmp key y)) key_cmp exact_keys xs
        ∙ any_mapped (λ y. is_eq (key_cmp key y)) (made_key plan.made) (filter (is_kept plan) held)
        ∙ any_left (λ row. is_eq (key_cmp key (made_key plan.made row))) (is_kept plan) held
        ∙ read_all key ◌||◌ false tests held is_held (λ row. true) (λ row. true) (λ k g. any_row p theirs k g.real (g.filled i d there))
        ∙ sym (any_one (λ row. is_eq (key_cmp key (key_of q.dims row))) (kept q rows))
        ∙ sym (any_mapped (λ y. is_eq (key_cmp key y)) (key_of q.dims) (kept q rows))
        ∙ sym (any_set_of (λ y. is_eq (key_cmp key y)) key_cmp exact_keys ys))

    keys_by_dims : (ds : List Dimension) (ms : List Made) → q.dims ≡ ds → plan.made ≡ ms → Paired (IsMade p.dims) ds ms → keys_in plan held ≡ keys q rows
    keys_by_dims [] [] ed em h =
        ap (λ m. keys_by m (map (made_key plan.made) (filter (is_kept plan) held))) em ∙ sym (ap (λ ds. keys_of ds (kept q rows)) ed)
    keys_by_dims [] (m ∷ ms) ed em h = absurd h
    keys_by_dims (d ∷ ds) [] ed em h = absurd h
    keys_by_dims (d ∷ ds) (m ∷ ms) ed em h =
        ap (λ n. keys_by n (map (made_key plan.made) (filter (is_kept plan) held))) em
        ∙ sets_are m.place h.0.from h.0.there
        ∙ ap (λ es. set_of key_cmp (map (key_of es) (kept q rows))) ed
        ∙ sym (ap (λ es. keys_of es (kept q rows)) ed)

    rows_of : (sources : List Source) → Paired (IsSource p q) q.measures sources → (all : List (List Value)) → map (λ key. derived_row sources (group_of plan held key) key) all ≡ map (group_row q (kept q rows)) all
    rows_of sources h [] = refl
    rows_of sources h (key ∷ all) =
        ap (λ cells. (map cell_of key ++ cells) ∷ map (λ k. derived_row sources (group_of plan held k) k) all) (cells_are key held is_held q.measures sources h)
        ∙ ap (λ more. group_row q (kept q rows) key ∷ more) (rows_of sources h all)

    derived_plain : (sources : List Source) → Paired (IsSource p q) q.measures sources → derived plan sources held ≡ plain q rows
    derived_plain sources h =
        rows_of sources h (keys_in plan held) ∙ ap (map (group_row q (kept q rows))) (keys_by_dims q.dims plan.made refl refl made)

-- every part of what covering says
record Covered (p q : Query) : Type 0 where
  whole : (is_none p.top || query_eq p q) ≡ true
  dims : list_all (makes p) q.dims ≡ true
  filters : list_all (implied q) p.filters ≡ true
  checks : list_all (checkable p) q.filters ≡ true

covered_parts : (p q : Query) → covers p q ≡ true → Covered p q
covered_parts p q e =
    let e5 = and_left _ _ e in
    let e4 = and_left _ _ e5 in
    let e3 = and_left _ _ e4 in
    let e2 = and_left _ _ e3 in
    record { whole = and_right _ _ e2; dims = and_right _ _ e3; filters = and_right _ _ e4; checks = and_right _ _ e5 }

pub derived_answer : (p q : Query) (rows : List (List Value)) (held items sorted table out : List (List Cell)) → covers p q ≡ true → p.top ≡ None → held ≡ answer p rows → IsDerived p q held items
    → sorted ≡ ascending (row_cmp q) items → table ≡ sorted → out ≡ first_rows q.top table → out ≡ answer q rows
derived_answer p q rows held items sorted table out c whole e d es et eo =
    let k = covered_parts p q c in
    let is_held : held ≡ ascending (row_cmp p) (plain p rows) = e ∙ ap (λ o. first_rows o (ascending (row_cmp p) (plain p rows))) whole in
    let is_plain : items ≡ plain q rows = d.rows ∙ derived_plain p q rows k.filters k.checks d.plan d.made d.filters d.places held is_held d.sources d.from in
    eo ∙ ap (first_rows q.top) (et ∙ es ∙ ap (ascending (row_cmp q)) is_plain)

no_way : {A : Type 0} (b : Bool) → b ≡ true → b ≡ false → A
no_way b s t = cc

pub whole_answer : (p q : Query) → covers p q ≡ true → is_none p.top ≡ false → p ≡ q
whole_answer p q c e = elim (or_cases (is_none p.top) (query_eq p q) (covered_parts p q c).whole) [ inl a ↦ no_way (is_none p.top) a e | inr a ↦ exact_queries p q a ]
