-- What is read of a held row is what its rows have.
use Rattle.std.proofs.Common.{◌≡◌, ℕ, ℤ, suc, pos, negsuc, ◌+◌, ◌*◌, ◌+ℤ◌, ◌*ℤ◌, Bool, true, false, ◌||◌, cond, if◌then◌else◌, List, [], ◌∷◌, ◌++◌, map, length, ◌⊎◌, inl, inr, refl, sym, ap, ◌∙◌, Option, Some, None, arith}
use Rattle.std.specs.Prelude.{slice_get}
use Rattle.std.proofs.Math.IntN.{*ℤ_comm, neg_ℤ, suc_ℤ-*ℤ, +ℤ_comm}
use Rattle.std.specs.List.{filter, fold, list_all}
use Rattle.std.specs.Ordering.{is_eq, is_lt, is_gt}
use Rattle.dq_base.specs.Answers.{average_of, cell_of, fold_of, greater, greatest_of, group_row, is_present, key_of, least_of, lesser, number_of, present, rows_with, sum_of}
use Rattle.dq_base.specs.Dims.{Dimension, plain}
use Rattle.dq_base.specs.Filters.{value_at}
use Rattle.dq_base.specs.Orders.{key_cmp, value_cmp}
use Rattle.dq_base.proofs.Exact.{exact_keys}
use Rattle.dq_base.specs.declared.value.Value.{Value}
use Rattle.dq_base.specs.declared.value.Value.TheVariants as value
use Rattle.dq_base.specs.declared.query.Measure.{Measure}
use Rattle.dq_base.specs.declared.query.Measure.TheVariants as measure
use Rattle.dq_base.specs.declared.query.Query.{Query}
use Rattle.dq_cover.proofs.CoverLaws.{and_both, and_left, and_right}
use Rattle.dq_fold.specs.Tallies.{greatest, least}
use Rattle.dq_fold.proofs.Grouped.{keys_total}
use Rattle.dq_rollup.specs.declared.source.Part.{Part}
use Rattle.dq_rollup.specs.declared.source.Part.TheVariants.{Shown, Keyed}
use Rattle.dq_rollup.specs.Reading.{cell_in, counted, higher, lower, multiple, number_in, plus_sum, some_value, sum_in, summed, value_of}
use Rattle.dq_rollup.specs.Sources.{IsCounts, IsKey, IsShown, IsSums}
use Rattle.dq_rollup.proofs.Adding.{count_big, counts, greatest_big, least_big, one_count, one_sum, rows_big, sum_big, sum_over, sums}
use Rattle.dq_rollup.proofs.Big.{big, big_unit, same_from}
use Rattle.dq_rollup.proofs.Cells.{measure_cell, plain_cell, value_again}
use Rattle.dq_rollup.proofs.Keyed.{IsReal, has_row, some_left}

-- cells of measures, read again
average_count : (vs : List Value) → number_in (average_of vs) ≡ length vs
average_count [] = refl
average_count (v ∷ vs) = refl

sum_again : (vs : List Value) → sum_in (sum_of vs) ≡ sum_over vs
sum_again [] = refl
sum_again (v ∷ vs) = refl

average_sum : (vs : List Value) → sum_in (average_of vs) ≡ sum_over vs
average_sum [] = refl
average_sum (v ∷ vs) = refl

present_some : (v : Value) → is_present v ≡ true → some_value v ≡ Some v
present_some value.Null e = cc
present_some (value.Int n) e = refl
present_some (value.Word t) e = refl

chosen_present : (b : Bool) (v w : Value) → is_present v ≡ true → is_present w ≡ true → is_present (if b then v else w) ≡ true
chosen_present true v w p r = p
chosen_present false v w p r = r

lesser_present : (v : Value) (vs : List Value) → is_present v ≡ true → list_all is_present vs ≡ true → is_present (fold lesser v vs) ≡ true
lesser_present v [] p e = p
lesser_present v (w ∷ vs) p e = lesser_present (lesser v w) vs (chosen_present (is_lt (value_cmp w v)) w v (and_left (is_present w) _ e) p) (and_right (is_present w) _ e)

greater_present : (v : Value) (vs : List Value) → is_present v ≡ true → list_all is_present vs ≡ true → is_present (fold greater v vs) ≡ true
greater_present v [] p e = p
greater_present v (w ∷ vs) p e = greater_present (greater v w) vs (chosen_present (is_gt (value_cmp w v)) w v (and_left (is_present w) _ e) p) (and_right (is_present w) _ e)

kept_step : (b : Bool) (v : Value) (vs : List Value) → is_present v ≡ b → list_all is_present vs ≡ true → list_all is_present (cond b (v ∷ vs) vs) ≡ true
kept_step true v vs e h = and_both (is_present v) (list_all is_present vs) e h
kept_step false v vs e h = h

all_present : (vs : List Value) → list_all is_present (filter is_present vs) ≡ true
all_present [] = refl
all_present (v ∷ vs) = kept_step (is_present v) v (filter is_present vs) refl (all_present vs)

least_again : (vs : List Value) → list_all is_present vs ≡ true → some_value (value_of (least_of vs)) ≡ least vs
least_again [] e = refl
least_again (v ∷ vs) e =
    ap some_value (value_again (fold lesser v vs)) ∙ present_some (fold lesser v vs) (lesser_present v vs (and_left (is_present v) _ e) (and_right (is_present v) _ e))

greatest_again : (vs : List Value) → list_all is_present vs ≡ true → some_value (value_of (greatest_of vs)) ≡ greatest vs
greatest_again [] e = refl
greatest_again (v ∷ vs) e =
    ap some_value (value_again (fold greater v vs)) ∙ present_some (fold greater v vs) (greater_present v vs (and_left (is_present v) _ e) (and_right (is_present v) _ e))

-- the same value in each row
count_same : (b : Bool) (rows : List (List Value)) → big ◌+◌ 0 (λ (row : List Value). cond b 1 0) rows ≡ (if b then length rows else 0)
count_same true rows = sym (rows_big 0 rows)
count_same false rows = big_unit ◌+◌ 0 counts rows

one_times_more : (n : ℤ) (m : ℕ) → n +ℤ n *ℤ pos (suc m) ≡ n *ℤ pos (suc (suc m))
one_times_more n m = +ℤ_comm n (n *ℤ pos (suc m)) ∙ ap (λ k. k +ℤ n) (*ℤ_comm n (pos (suc m))) ∙ sym (suc_ℤ-*ℤ (pos (suc m)) n) ∙ *ℤ_comm (pos (suc (suc m))) n

times_one : (n : ℤ) → n *ℤ pos 1 ≡ n
times_one (pos m) = ap pos (omega arith)
times_one (negsuc m) = let e : suc m * 1 ≡ suc m = omega arith in ap (λ k. neg_ℤ (pos k)) e

sum_times : (n : ℤ) (row : List Value) (rows : List (List Value)) → big plus_sum None (λ (r : List Value). Some n) (row ∷ rows) ≡ Some (n *ℤ pos (suc (length rows)))
sum_times n row [] = ap Some (sym (times_one n))
sum_times n row (r ∷ rows) = ap (plus_sum (Some n)) (sum_times n r rows) ∙ ap Some (one_times_more n (length rows))

sum_same : (b : Bool) (n : ℤ) (row : List Value) (rows : List (List Value)) → big plus_sum None (λ (r : List Value). cond b (Some n) None) (row ∷ rows) ≡ (if b then Some (n *ℤ pos (length (row ∷ rows))) else None)
sum_same true n row rows = sum_times n row rows
sum_same false n row rows = big_unit plus_sum None sums (row ∷ rows)

one_of : (b : Bool) (v : Value) → (if b then v else v) ≡ v
one_of true v = refl
one_of false v = refl

lower_twice : (o : Option Value) → lower o o ≡ o
lower_twice None = refl
lower_twice (Some v) = ap Some (one_of (is_lt (value_cmp v v)) v)

higher_twice : (o : Option Value) → higher o o ≡ o
higher_twice None = refl
higher_twice (Some v) = ap Some (one_of (is_gt (value_cmp v v)) v)

low_same : (o : Option Value) (row : List Value) (rows : List (List Value)) → big lower None (λ (r : List Value). o) (row ∷ rows) ≡ o
low_same None row [] = refl
low_same (Some v) row [] = refl
low_same o row (r ∷ rows) = ap (lower o) (low_same o r rows) ∙ lower_twice o

high_same : (o : Option Value) (row : List Value) (rows : List (List Value)) → big higher None (λ (r : List Value). o) (row ∷ rows) ≡ o
high_same None row [] = refl
high_same (Some v) row [] = refl
high_same o row (r ∷ rows) = ap (higher o) (high_same o r rows) ∙ higher_twice o

same_step : {M : Type 0} (op : M → M → M) (unit : M) (b : Bool) (f g : List Value → M) (r : List Value) (rest : List (List Value)) → (b ≡ true → f r ≡ g r) → big op unit f rest ≡ big op unit g rest → big op unit f (cond b (r ∷ rest) rest) ≡ big op unit g (cond b (r ∷ rest) rest)
same_step op unit true f g r rest h e = ap (λ m. op m (big op unit f rest)) (h refl) ∙ ap (op (g r)) e
same_step op unit false f g r rest h e = e

-- functions that agree where a test holds
pub same_where : {M : Type 0} (op : M → M → M) (unit : M) (f g : List Value → M) (t : List Value → Bool) (rows : List (List Value)) → ((r : List Value) → t r ≡ true → f r ≡ g r) → big op unit f (filter t rows) ≡ big op unit g (filter t rows)
same_where op unit f g t [] h = refl
same_where op unit f g t (r ∷ rows) h = same_step op unit (t r) f g r (filter t rows) (h r) (same_where op unit f g t rows h)

module _ (p : Query) (rows : List (List Value)) (k : List Value) (real : IsReal p.dims k) where
  abbrev mine : List (List Value)
  mine = rows_with p.dims k rows

  pub shown : (m : Measure) (i : ℕ) → IsShown p m i → cell_in (group_row p rows k) i ≡ fold_of m mine
  shown m i s =
      ap (λ x. cell_in (map cell_of x ++ map (λ n. fold_of n mine) p.measures) i) real.key
      ∙ measure_cell p.dims real.row (λ n. fold_of n mine) p.measures i s.at m s.place_is s.there

  pub keyed : (c i : ℕ) → IsKey p c i → value_of (cell_in (group_row p rows k) i) ≡ value_at real.row c
  keyed c i s =
      ap (λ x. value_of (cell_in (map cell_of x ++ map (λ n. fold_of n mine) p.measures) i)) real.key
      ∙ plain_cell p real.row (map (λ n. fold_of n mine) p.measures) c i s

  one_value : (c i : ℕ) → IsKey p c i → (r : List Value) → is_eq (key_cmp k (key_of p.dims r)) ≡ true → value_at r c ≡ value_at real.row c
  one_value c i s r e =
      let same : key_of p.dims r ≡ key_of p.dims real.row = sym (same_from ◌+◌ 0 counts key_cmp keys_total exact_keys k (key_of p.dims r) e) ∙ real.key in
      sym (plain_cell p r [] c i s) ∙ ap (λ x. value_of (cell_in (map cell_of x ++ []) i)) same ∙ plain_cell p real.row [] c i s

  constant : {M : Type 0} (op : M → M → M) (unit : M) (g : Value → M) (c i : ℕ) → IsKey p c i → big op unit (λ r. g (value_at r c)) mine ≡ big op unit (λ (r : List Value). g (value_at real.row c)) mine
  constant op unit g c i s =
      same_where op unit (λ r. g (value_at r c)) (λ r. g (value_at real.row c)) (λ r. is_eq (key_cmp k (key_of p.dims r))) rows (λ r e. ap g (one_value c i s r e))

  -- how many values
  pub counts_read : (c : ℕ) (part : Part) → IsCounts p c part → counted part (group_row p rows k) ≡ big ◌+◌ 0 (λ r. one_count (value_at r c)) mine
  counts_read c (Shown i) (inl s) = ap number_in (shown (measure.Count c) i s) ∙ count_big c mine
  counts_read c (Shown i) (inr s) = ap number_in (shown (measure.Avg c) i s) ∙ average_count (present c mine) ∙ count_big c mine
  counts_read c (Keyed i j) s =
      ap (λ v. if is_present v then number_in (cell_in (group_row p rows k) j) else 0) (keyed c i s.0)
      ∙ ap (λ n. if is_present (value_at real.row c) then n else 0) (ap number_in (shown measure.Rows j s.1))
      ∙ sym (constant ◌+◌ 0 one_count c i s.0 ∙ count_same (is_present (value_at real.row c)) mine)

  module _ (filled : has_row p.dims rows k ≡ true) where
    -- their sum, where the key is that of some row
    sums_keyed : (c i j : ℕ) → IsKey p c i → IsShown p measure.Rows j → summed (Keyed i j) (group_row p rows k) ≡ big plus_sum None (λ r. one_sum (value_at r c)) mine
    sums_keyed c i j s t =
        let left = some_left (λ r. is_eq (key_cmp k (key_of p.dims r))) rows filled in
        let v = value_at real.row c in
        ap (λ w. multiple w (number_in (cell_in (group_row p rows k) j))) (keyed c i s)
        ∙ ap (multiple v) (ap number_in (shown measure.Rows j t))
        ∙ ap (λ (rs : List (List Value)). multiple v (length rs)) left.2
        ∙ sym (constant plus_sum None one_sum c i s ∙ ap (big plus_sum None (λ r. one_sum v)) left.2 ∙ sum_same (is_present v) (number_of v) left.0 left.1)

    least_keyed : (c i : ℕ) → IsKey p c i → some_value (value_of (cell_in (group_row p rows k) i)) ≡ big lower None (λ r. some_value (value_at r c)) mine
    least_keyed c i s =
        let left = some_left (λ r. is_eq (key_cmp k (key_of p.dims r))) rows filled in
        let v = value_at real.row c in
        ap some_value (keyed c i s) ∙ sym (constant lower None some_value c i s ∙ ap (big lower None (λ r. some_value v)) left.2 ∙ low_same (some_value v) left.0 left.1)

    greatest_keyed : (c i : ℕ) → IsKey p c i → some_value (value_of (cell_in (group_row p rows k) i)) ≡ big higher None (λ r. some_value (value_at r c)) mine
    greatest_keyed c i s =
        let left = some_left (λ r. is_eq (key_cmp k (key_of p.dims r))) rows filled in
        let v = value_at real.row c in
        ap some_value (keyed c i s) ∙ sym (constant higher None some_value c i s ∙ ap (big higher None (λ r. some_value v)) left.2 ∙ high_same (some_value v) left.0 left.1)

    any_same : (b : Bool) (row : List Value) (rs : List (List Value)) → big ◌||◌ false (λ (r : List Value). b) (row ∷ rs) ≡ b
    any_same true row rs = refl
    any_same false row [] = refl
    any_same false row (r ∷ rs) = any_same false r rs

    -- whether some value passes a test
    pub any_keyed : (t : Value → Bool) (c i : ℕ) → IsKey p c i → t (value_of (cell_in (group_row p rows k) i)) ≡ big ◌||◌ false (λ r. t (value_at r c)) mine
    any_keyed t c i s =
        let left = some_left (λ r. is_eq (key_cmp k (key_of p.dims r))) rows filled in
        let v = value_at real.row c in
        ap t (keyed c i s) ∙ sym (constant ◌||◌ false t c i s ∙ ap (big ◌||◌ false (λ r. t v)) left.2 ∙ any_same (t v) left.0 left.1)

    -- whether there is a row
    pub any_row : true ≡ big ◌||◌ false (λ (r : List Value). true) mine
    any_row =
        let left = some_left (λ r. is_eq (key_cmp k (key_of p.dims r))) rows filled in
        sym (ap (big ◌||◌ false (λ r. true)) left.2)

  sums_shown : (c i : ℕ) → IsShown p (measure.Sum c) i ⊎ IsShown p (measure.Avg c) i → summed (Shown i) (group_row p rows k) ≡ big plus_sum None (λ r. one_sum (value_at r c)) mine
  sums_shown c i (inl s) = ap sum_in (shown (measure.Sum c) i s) ∙ sum_again (present c mine) ∙ sum_big c mine
  sums_shown c i (inr s) = ap sum_in (shown (measure.Avg c) i s) ∙ average_sum (present c mine) ∙ sum_big c mine

  -- some dimension needs a row of the key
  abbrev Filled : Type 0
  Filled = (i : ℕ) (d : Dimension) → slice_get p.dims i ≡ Some d → has_row p.dims rows k ≡ true

  pub sums_read : Filled → (c : ℕ) (part : Part) → IsSums p c part → summed part (group_row p rows k) ≡ big plus_sum None (λ r. one_sum (value_at r c)) mine
  sums_read f c (Shown i) s = sums_shown c i s
  sums_read f c (Keyed i j) s = sums_keyed (f i (plain c) s.0) c i j s.0 s.1

  pub least_read : Filled → (c i : ℕ) → IsShown p (measure.Min c) i ⊎ IsKey p c i → some_value (value_of (cell_in (group_row p rows k) i)) ≡ big lower None (λ r. some_value (value_at r c)) mine
  least_read f c i (inl s) =
      ap (λ cell. some_value (value_of cell)) (shown (measure.Min c) i s) ∙ least_again (present c mine) (all_present (map (λ row. value_at row c) mine)) ∙ least_big c mine
  least_read f c i (inr s) = least_keyed (f i (plain c) s) c i s

  pub greatest_read : Filled → (c i : ℕ) → IsShown p (measure.Max c) i ⊎ IsKey p c i → some_value (value_of (cell_in (group_row p rows k) i)) ≡ big higher None (λ r. some_value (value_at r c)) mine
  greatest_read f c i (inl s) =
      ap (λ cell. some_value (value_of cell)) (shown (measure.Max c) i s) ∙ greatest_again (present c mine) (all_present (map (λ row. value_at row c) mine)) ∙ greatest_big c mine
  greatest_read f c i (inr s) = greatest_keyed (f i (plain c) s) c i s
