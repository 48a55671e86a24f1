-- What can be added in any order, and what measures add.
use Rattle.std.proofs.Common.{◌≡◌, ℕ, ℤ, pos, ◌+◌, ◌+ℤ◌, Bool, true, false, ◌||◌, ◌&&◌, cond, if◌then◌else◌, List, [], ◌∷◌, length, refl, sym, ap, ◌∙◌, Option, Some, None, arith}
use Rattle.std.proofs.Math.IntN.{+ℤ_assoc, +ℤ_comm, +ℤ_idr}
use Rattle.std.specs.List.{fold, list_any}
use Rattle.std.specs.Ordering.{is_gt, is_lt, ordering_reverse}
use Rattle.std.specs.declared.cmp.Ordering.{Ordering}
use Rattle.std.specs.declared.cmp.Ordering.TheVariants.{Less, Equal, Greater}
use Rattle.dq_base.specs.Answers.{greater, is_present, lesser, number_of, present, total}
use Rattle.dq_base.specs.Filters.{value_at}
use Rattle.dq_base.specs.Orders.{value_cmp}
use Rattle.dq_base.specs.ValueOrder.{value_cmp_total}
use Rattle.dq_base.proofs.Exact.{exact_values}
use Rattle.dq_base.specs.declared.value.Value.{Value}
use Rattle.dq_base.specs.declared.value.Value.TheVariants as value
use Rattle.dq_fold.specs.Tallies.{greatest, least}
use Rattle.dq_rollup.specs.Reading.{higher, lower, plus_sum, some_value}
use Rattle.dq_rollup.proofs.Big.{Adds, big}

-- numbers
pub counts : Adds ◌+◌ 0
counts = record { assoc = λ a b c. omega arith; comm = λ a b. omega arith; left = λ a. omega arith }

-- tests
or_assoc : (a b c : Bool) → ((a || b) || c) ≡ (a || (b || c))
or_assoc true b c = refl
or_assoc false b c = refl

or_comm : (a b : Bool) → (a || b) ≡ (b || a)
or_comm true true = refl
or_comm true false = refl
or_comm false true = refl
or_comm false false = refl

pub tests : Adds ◌||◌ false
tests = record { assoc = or_assoc; comm = or_comm; left = λ a. refl }

-- sums that may be missing
sum_assoc : (a b c : Option ℤ) → plus_sum (plus_sum a b) c ≡ plus_sum a (plus_sum b c)
sum_assoc None b c = refl
sum_assoc (Some a) None c = refl
sum_assoc (Some a) (Some b) None = refl
sum_assoc (Some a) (Some b) (Some c) = ap Some (+ℤ_assoc a b c)

sum_comm : (a b : Option ℤ) → plus_sum a b ≡ plus_sum b a
sum_comm None None = refl
sum_comm None (Some b) = refl
sum_comm (Some a) None = refl
sum_comm (Some a) (Some b) = ap Some (+ℤ_comm a b)

pub sums : Adds plus_sum None
sums = record { assoc = sum_assoc; comm = sum_comm; left = λ a. refl }

turned_less : (a b : Value) → value_cmp a b ≡ Greater → value_cmp b a ≡ Less
turned_less a b e = value_cmp_total.antisymm b a ∙ ap ordering_reverse e

turned_greater : (a b : Value) → value_cmp a b ≡ Less → value_cmp b a ≡ Greater
turned_greater a b e = value_cmp_total.antisymm b a ∙ ap ordering_reverse e

above_trans : (a b c : Value) → value_cmp a b ≡ Greater → value_cmp b c ≡ Greater → value_cmp a c ≡ Greater
above_trans a b c p q = turned_greater c a (value_cmp_total.trans c b a (turned_less b c q) (turned_less a b p))

-- by how c compares with b, and b with a
lesser_by : (r s : Ordering) (a b c : Value) → value_cmp c b ≡ r → value_cmp b a ≡ s → lesser (if is_lt s then b else a) c ≡ lesser a (if is_lt r then c else b)
lesser_by Less Less a b c p q =
    ap (λ r. if is_lt r then c else b) p ∙ ap (λ r. if is_lt r then c else a) (sym (value_cmp_total.trans c b a p q))
lesser_by Less Equal a b c p q = refl
lesser_by Less Greater a b c p q = refl
lesser_by Equal Less a b c p q = ap (λ r. if is_lt r then c else b) p ∙ ap (λ r. if is_lt r then b else a) (sym q)
lesser_by Equal Equal a b c p q = ap (λ r. if is_lt r then c else a) (value_cmp_total.congr c b a p ∙ q) ∙ ap (λ r. if is_lt r then b else a) (sym q)
lesser_by Equal Greater a b c p q = ap (λ r. if is_lt r then c else a) (value_cmp_total.congr c b a p ∙ q) ∙ ap (λ r. if is_lt r then b else a) (sym q)
lesser_by Greater Less a b c p q = ap (λ r. if is_lt r then c else b) p ∙ ap (λ r. if is_lt r then b else a) (sym q)
lesser_by Greater Equal a b c p q = ap (λ v. lesser v c) (sym (exact_values b a q)) ∙ ap (λ r. if is_lt r then c else b) p ∙ exact_values b a q ∙ ap (λ r. if is_lt r then b else a) (sym q)
lesser_by Greater Greater a b c p q = ap (λ r. if is_lt r then c else a) (above_trans c b a p q) ∙ ap (λ r. if is_lt r then b else a) (sym q)

greater_by : (r s : Ordering) (a b c : Value) → value_cmp c b ≡ r → value_cmp b a ≡ s → greater (if is_gt s then b else a) c ≡ greater a (if is_gt r then c else b)
greater_by Greater Greater a b c p q =
    ap (λ r. if is_gt r then c else b) p ∙ ap (λ r. if is_gt r then c else a) (sym (above_trans c b a p q))
greater_by Greater Equal a b c p q = refl
greater_by Greater Less a b c p q = refl
greater_by Equal Greater a b c p q = ap (λ r. if is_gt r then c else b) p ∙ ap (λ r. if is_gt r then b else a) (sym q)
greater_by Equal Equal a b c p q = ap (λ r. if is_gt r then c else a) (value_cmp_total.congr c b a p ∙ q) ∙ ap (λ r. if is_gt r then b else a) (sym q)
greater_by Equal Less a b c p q = ap (λ r. if is_gt r then c else a) (value_cmp_total.congr c b a p ∙ q) ∙ ap (λ r. if is_gt r then b else a) (sym q)
greater_by Less Greater a b c p q = ap (λ r. if is_gt r then c else b) p ∙ ap (λ r. if is_gt r then b else a) (sym q)
greater_by Less Equal a b c p q = ap (λ v. greater v c) (sym (exact_values b a q)) ∙ ap (λ r. if is_gt r then c else b) p ∙ exact_values b a q ∙ ap (λ r. if is_gt r then b else a) (sym q)
greater_by Less Less a b c p q = ap (λ r. if is_gt r then c else a) (value_cmp_total.trans c b a p q) ∙ ap (λ r. if is_gt r then b else a) (sym q)

lesser_turned : (r : Ordering) (a b : Value) → value_cmp a b ≡ r → (if is_lt (ordering_reverse r) then b else a) ≡ (if is_lt r then a else b)
lesser_turned Less a b e = refl
lesser_turned Equal a b e = exact_values a b e
lesser_turned Greater a b e = refl

greater_turned : (r : Ordering) (a b : Value) → value_cmp a b ≡ r → (if is_gt (ordering_reverse r) then b else a) ≡ (if is_gt r then a else b)
greater_turned Less a b e = refl
greater_turned Equal a b e = exact_values a b e
greater_turned Greater a b e = refl

lesser_comm : (a b : Value) → lesser a b ≡ lesser b a
lesser_comm a b = ap (λ r. if is_lt r then b else a) (value_cmp_total.antisymm b a) ∙ lesser_turned (value_cmp a b) a b refl

greater_comm : (a b : Value) → greater a b ≡ greater b a
greater_comm a b = ap (λ r. if is_gt r then b else a) (value_cmp_total.antisymm b a) ∙ greater_turned (value_cmp a b) a b refl

lesser_assoc : (a b c : Value) → lesser (lesser a b) c ≡ lesser a (lesser b c)
lesser_assoc a b c = lesser_by (value_cmp c b) (value_cmp b a) a b c refl refl

greater_assoc : (a b c : Value) → greater (greater a b) c ≡ greater a (greater b c)
greater_assoc a b c = greater_by (value_cmp c b) (value_cmp b a) a b c refl refl

lower_assoc : (a b c : Option Value) → lower (lower a b) c ≡ lower a (lower b c)
lower_assoc None b c = refl
lower_assoc (Some a) None c = refl
lower_assoc (Some a) (Some b) None = refl
lower_assoc (Some a) (Some b) (Some c) = ap Some (lesser_assoc a b c)

lower_comm : (a b : Option Value) → lower a b ≡ lower b a
lower_comm None None = refl
lower_comm None (Some b) = refl
lower_comm (Some a) None = refl
lower_comm (Some a) (Some b) = ap Some (lesser_comm a b)

-- least values
pub lows : Adds lower None
lows = record { assoc = lower_assoc; comm = lower_comm; left = λ a. refl }

higher_assoc : (a b c : Option Value) → higher (higher a b) c ≡ higher a (higher b c)
higher_assoc None b c = refl
higher_assoc (Some a) None c = refl
higher_assoc (Some a) (Some b) None = refl
higher_assoc (Some a) (Some b) (Some c) = ap Some (greater_assoc a b c)

higher_comm : (a b : Option Value) → higher a b ≡ higher b a
higher_comm None None = refl
higher_comm None (Some b) = refl
higher_comm (Some a) None = refl
higher_comm (Some a) (Some b) = ap Some (greater_comm a b)

-- greatest values
pub highs : Adds higher None
highs = record { assoc = higher_assoc; comm = higher_comm; left = λ a. refl }

-- an operation that may be grouped in either way may start later
fold_later : {X Y : Type 0} (op : X → X → X) (h : Y → X) → ((a b c : X) → op (op a b) c ≡ op a (op b c)) → (a b : X) (ys : List Y)
    → fold (λ s y. op s (h y)) (op a b) ys ≡ op a (fold (λ s y. op s (h y)) b ys)
fold_later op h g a b [] = refl
fold_later op h g a b (y ∷ ys) = ap (λ s. fold (λ t z. op t (h z)) s ys) (g a b (h y)) ∙ fold_later op h g a (op b (h y)) ys

-- the sum of values, if there are any
abbrev pub sum_over : List Value → Option ℤ
sum_over [] = None
sum_over (v ∷ vs) = Some (total (v ∷ vs))

abbrev pub one_count : Value → ℕ
one_count v = cond (is_present v) 1 0

abbrev pub one_sum : Value → Option ℤ
one_sum v = cond (is_present v) (Some (number_of v)) None

total_first : (v : Value) (vs : List Value) → total (v ∷ vs) ≡ number_of v +ℤ total vs
total_first v vs =
    ap (λ s. fold (λ t w. t +ℤ number_of w) s vs) (+ℤ_comm (pos 0) (number_of v))
    ∙ fold_later ◌+ℤ◌ number_of +ℤ_assoc (number_of v) (pos 0) vs

sum_first : (v : Value) (vs : List Value) → plus_sum (Some (number_of v)) (sum_over vs) ≡ sum_over (v ∷ vs)
sum_first v [] = ap Some (sym (total_first v [] ∙ +ℤ_idr (number_of v)))
sum_first v (w ∷ vs) = ap Some (sym (total_first v (w ∷ vs)))

least_first : (v : Value) (vs : List Value) → lower (Some v) (least vs) ≡ least (v ∷ vs)
least_first v [] = refl
least_first v (w ∷ vs) = ap Some (sym (fold_later lesser (λ (u : Value). u) lesser_assoc v w vs))

greatest_first : (v : Value) (vs : List Value) → higher (Some v) (greatest vs) ≡ greatest (v ∷ vs)
greatest_first v [] = refl
greatest_first v (w ∷ vs) = ap Some (sym (fold_later greater (λ (u : Value). u) greater_assoc v w vs))

count_step : (b : Bool) (v : Value) (vs : List Value) → length (cond b (v ∷ vs) vs) ≡ cond b 1 0 + length vs
count_step true v vs = omega arith
count_step false v vs = omega arith

sum_step : (b : Bool) (v : Value) (vs : List Value) → sum_over (cond b (v ∷ vs) vs) ≡ plus_sum (cond b (Some (number_of v)) None) (sum_over vs)
sum_step true v vs = sym (sum_first v vs)
sum_step false v vs = refl

least_step : (v : Value) (vs : List Value) → least (cond (is_present v) (v ∷ vs) vs) ≡ lower (some_value v) (least vs)
least_step value.Null vs = refl
least_step (value.Int n) vs = sym (least_first (value.Int n) vs)
least_step (value.Word t) vs = sym (least_first (value.Word t) vs)

greatest_step : (v : Value) (vs : List Value) → greatest (cond (is_present v) (v ∷ vs) vs) ≡ higher (some_value v) (greatest vs)
greatest_step value.Null vs = refl
greatest_step (value.Int n) vs = sym (greatest_first (value.Int n) vs)
greatest_step (value.Word t) vs = sym (greatest_first (value.Word t) vs)

any_step : (p : Value → Bool) (b : Bool) (v : Value) (vs : List Value) → list_any p (cond b (v ∷ vs) vs) ≡ ((b && p v) || list_any p vs)
any_step p true v vs = refl
any_step p false v vs = refl

module _ (c : ℕ) where
  -- the rows, the values that aren't null, their sum, the bounds, and whether some value passes a test
  pub rows_big : (rows : List (List Value)) → length rows ≡ big ◌+◌ 0 (λ row. 1) rows
  rows_big [] = refl
  rows_big (r ∷ rows) = omega (arith, rows_big rows)

  pub count_big : (rows : List (List Value)) → length (present c rows) ≡ big ◌+◌ 0 (λ row. one_count (value_at row c)) rows
  count_big [] = refl
  count_big (r ∷ rows) = count_step (is_present (value_at r c)) (value_at r c) (present c rows) ∙ ap (λ n. one_count (value_at r c) + n) (count_big rows)

  pub sum_big : (rows : List (List Value)) → sum_over (present c rows) ≡ big plus_sum None (λ row. one_sum (value_at row c)) rows
  sum_big [] = refl
  sum_big (r ∷ rows) = sum_step (is_present (value_at r c)) (value_at r c) (present c rows) ∙ ap (plus_sum (one_sum (value_at r c))) (sum_big rows)

  pub least_big : (rows : List (List Value)) → least (present c rows) ≡ big lower None (λ row. some_value (value_at row c)) rows
  least_big [] = refl
  least_big (r ∷ rows) = least_step (value_at r c) (present c rows) ∙ ap (lower (some_value (value_at r c))) (least_big rows)

  pub greatest_big : (rows : List (List Value)) → greatest (present c rows) ≡ big higher None (λ row. some_value (value_at row c)) rows
  greatest_big [] = refl
  greatest_big (r ∷ rows) = greatest_step (value_at r c) (present c rows) ∙ ap (higher (some_value (value_at r c))) (greatest_big rows)

  pub any_big : (p : Value → Bool) (rows : List (List Value)) → list_any p (present c rows) ≡ big ◌||◌ false (λ row. is_present (value_at row c) && p (value_at row c)) rows
  any_big p [] = refl
  any_big p (r ∷ rows) = any_step p (is_present (value_at r c)) (value_at r c) (present c rows) ∙ ap (λ b. (is_present (value_at r c) && p (value_at r c)) || b) (any_big p rows)
