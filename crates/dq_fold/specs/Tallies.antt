-- What is kept of a group's rows for each measure.
use Rattle.std.specs.Prelude.{ℕ, pos, ◌+◌, ◌^◌, ◌≤◌, Bool, true, cond, List, [], ◌∷◌, length, Option, Some, None}
use Rattle.std.specs.List.{fold}
use Rattle.std.specs.Ordering.{is_lt, is_gt}
use Rattle.dq_base.specs.Answers.{cell_of, count_cell, greater, lesser, present, total}
use Rattle.dq_base.specs.Filters.{value_at}
use Rattle.dq_base.specs.Orders.{value_cmp}
use Rattle.dq_base.specs.Sets.{set_of, with}
use Rattle.dq_base.specs.declared.value.Value.{Value}
use Rattle.dq_base.specs.declared.value.Value.TheVariants as value
use Rattle.dq_base.specs.declared.cell.Cell.{Cell}
use Rattle.dq_base.specs.declared.cell.Cell.TheVariants as cell
use Rattle.dq_base.specs.declared.query.Measure.{Measure}
use Rattle.dq_base.specs.declared.query.Measure.TheVariants as measure
use Rattle.dq_fold.specs.Sums.{Sums, summed, merged_sums, sum_cell, average_cell}
use Rattle.dq_fold.specs.declared.tally.Tally.{Tally}
use Rattle.dq_fold.specs.declared.tally.Tally.TheVariants as tally

-- the value, if it isn't null
abbrev pub filled : Value → Option Value
filled value.Null = None
filled (value.Int n) = Some (value.Int n)
filled (value.Word t) = Some (value.Word t)

-- the sum of values, and how many there are
abbrev pub sums : List Value → Sums
sums vs = record { sum = total vs; count = length vs }

-- the least value, if there is one
abbrev pub least : List Value → Option Value
least [] = None
least (v ∷ vs) = Some (fold lesser v vs)

-- the greatest value, if there is one
abbrev pub greatest : List Value → Option Value
greatest [] = None
greatest (v ∷ vs) = Some (fold greater v vs)

-- what is kept of rows for a measure
abbrev pub tally_of : List (List Value) → Measure → Tally
tally_of rows measure.Rows = tally.Rows (length rows)
tally_of rows (measure.Count c) = tally.Count c (length (present c rows))
tally_of rows (measure.Sum c) = tally.Sum c (sums (present c rows))
tally_of rows (measure.Min c) = tally.Least c (least (present c rows))
tally_of rows (measure.Max c) = tally.Greatest c (greatest (present c rows))
tally_of rows (measure.Distinct c) = tally.Distinct c (set_of value_cmp (present c rows))
tally_of rows (measure.Avg c) = tally.Average c (sums (present c rows))

-- how many values are counted
abbrev pub count_in : Tally → ℕ
count_in (tally.Rows n) = n
count_in (tally.Count c n) = n
count_in (tally.Sum c t) = t.count
count_in (tally.Least c v) = 0
count_in (tally.Greatest c v) = 0
count_in (tally.Distinct c vs) = 0
count_in (tally.Average c t) = t.count

-- the cell of a value, or null
abbrev pub best_cell : Option Value → Cell
best_cell None = cell.Null
best_cell (Some v) = cell_of v

-- the cell of what is kept
abbrev pub tally_cell : Tally → Cell
tally_cell (tally.Rows n) = cell.Whole (pos n)
tally_cell (tally.Count c n) = cell.Whole (pos n)
tally_cell (tally.Sum c t) = sum_cell t
tally_cell (tally.Least c v) = best_cell v
tally_cell (tally.Greatest c v) = best_cell v
tally_cell (tally.Distinct c vs) = count_cell vs
tally_cell (tally.Average c t) = average_cell t

-- one more, if there is a value
abbrev pub counted : Option Value → ℕ → ℕ
counted None n = n
counted (Some v) n = n + 1

-- whether a value takes the place of the least so far
abbrev pub lowers : Value → Option Value → Bool
lowers v None = true
lowers v (Some best) = is_lt (value_cmp v best)

-- whether a value takes the place of the greatest so far
abbrev pub raises : Value → Option Value → Bool
raises v None = true
raises v (Some best) = is_gt (value_cmp v best)

-- the least once a value comes, if there is one
abbrev pub lowered : Option Value → Option Value → Option Value
lowered None best = best
lowered (Some v) best = cond (lowers v best) (Some v) best

-- the greatest once a value comes, if there is one
abbrev pub raised : Option Value → Option Value → Option Value
raised None best = best
raised (Some v) best = cond (raises v best) (Some v) best

-- the different values once a value comes, if there is one
abbrev pub seen : Option Value → List Value → List Value
seen None vs = vs
seen (Some v) vs = with value_cmp v vs

-- what is kept once a row is added
abbrev pub added : List Value → Tally → Tally
added row (tally.Rows n) = tally.Rows (n + 1)
added row (tally.Count c n) = tally.Count c (counted (filled (value_at row c)) n)
added row (tally.Sum c t) = tally.Sum c (summed (filled (value_at row c)) t)
added row (tally.Least c v) = tally.Least c (lowered (filled (value_at row c)) v)
added row (tally.Greatest c v) = tally.Greatest c (raised (filled (value_at row c)) v)
added row (tally.Distinct c vs) = tally.Distinct c (seen (filled (value_at row c)) vs)
added row (tally.Average c t) = tally.Average c (summed (filled (value_at row c)) t)

-- a sum, and the one that a tally keeps
abbrev pub with_sum : Sums → Tally → Sums
with_sum t (tally.Rows n) = t
with_sum t (tally.Count c n) = t
with_sum t (tally.Sum c u) = merged_sums t u
with_sum t (tally.Least c v) = t
with_sum t (tally.Greatest c v) = t
with_sum t (tally.Distinct c vs) = t
with_sum t (tally.Average c u) = merged_sums t u

-- the bound that a tally keeps, if there is one
abbrev pub best_in : Tally → Option Value
best_in (tally.Rows n) = None
best_in (tally.Count c n) = None
best_in (tally.Sum c t) = None
best_in (tally.Least c v) = v
best_in (tally.Greatest c v) = v
best_in (tally.Distinct c vs) = None
best_in (tally.Average c t) = None

-- different values, and each of some more
abbrev pub all_seen : List Value → List Value → List Value
all_seen vs more = fold (λ set v. with value_cmp v set) vs more

-- different values, and those that a tally keeps
abbrev pub with_seen : List Value → Tally → List Value
with_seen vs (tally.Rows n) = vs
with_seen vs (tally.Count c n) = vs
with_seen vs (tally.Sum c t) = vs
with_seen vs (tally.Least c v) = vs
with_seen vs (tally.Greatest c v) = vs
with_seen vs (tally.Distinct c more) = all_seen vs more
with_seen vs (tally.Average c t) = vs

-- what is kept once the rows of another tally for the same measure are added
abbrev pub merged : Tally → Tally → Tally
merged (tally.Rows n) u = tally.Rows (n + count_in u)
merged (tally.Count c n) u = tally.Count c (n + count_in u)
merged (tally.Sum c t) u = tally.Sum c (with_sum t u)
merged (tally.Least c v) u = tally.Least c (lowered (best_in u) v)
merged (tally.Greatest c v) u = tally.Greatest c (raised (best_in u) v)
merged (tally.Distinct c vs) u = tally.Distinct c (with_seen vs u)
merged (tally.Average c t) u = tally.Average c (with_sum t u)

-- each tally with the other at its place
abbrev pub merged_all : List Tally → List Tally → List Tally
merged_all ts [] = ts
merged_all [] (u ∷ us) = []
merged_all (t ∷ ts) (u ∷ us) = merged t u ∷ merged_all ts us

-- each of the other tallies has one at its place, and the two count at most 2^23
abbrev pub Mergeable : List Tally → List Tally → Type 0
Mergeable ts [] = Unit {0}
Mergeable [] (u ∷ us) = ⊥
Mergeable (t ∷ ts) (u ∷ us) = (count_in t + count_in u ≤ 2 ^ 23) × Mergeable ts us
