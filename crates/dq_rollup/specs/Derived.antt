-- The rows that are derived from held ones.
use Rattle.std.specs.Prelude.{◌≡◌, ℕ, ℤ, pos, ◌+◌, ◌-◌, Bool, ◌&&◌, List, [], ◌∷◌, ◌++◌, map, slice_index_or, Option, Some, None}
use Rattle.std.specs.List.{filter, fold}
use Rattle.std.specs.Ordering.{is_eq}
use Rattle.dq_base.specs.Answers.{cell_of, count_cell}
use Rattle.dq_base.specs.Orders.{key_cmp, value_cmp}
use Rattle.dq_base.specs.Sets.{set_of, with}
use Rattle.dq_base.specs.declared.value.Value.{Value}
use Rattle.dq_base.specs.declared.cell.Cell.{Cell}
use Rattle.dq_base.specs.declared.cell.Cell.TheVariants as cell
use Rattle.dq_base.specs.declared.predicate.Predicate.{Predicate}
use Rattle.dq_rollup.specs.declared.key.Made.{Made}
use Rattle.dq_rollup.specs.declared.source.Part.{Part}
use Rattle.dq_rollup.specs.declared.source.Source.{Source}
use Rattle.dq_rollup.specs.declared.source.Source.TheVariants.{Count, Sum, Least, Greatest, Different, Average}
use Rattle.dq_base.specs.declared.query.Query.{Query}
use Rattle.dq_rollup.specs.Keys.{IsMade, IsPlaced, made_key, passes}
use Rattle.dq_rollup.specs.Pairs.{Paired}
use Rattle.dq_rollup.specs.Sources.{IsSource}
use Rattle.dq_rollup.specs.Reading.{cell_in, counted, higher, lower, plus_sum, some_value, summed, value_of}

-- a value among the different ones, if there is one
abbrev pub with_some : Option Value → List Value → List Value
with_some None set = set
with_some (Some v) set = with value_cmp v set

abbrev pub total_count : Part → List (List Cell) → ℕ
total_count part rows = fold (λ n row. n + counted part row) 0 rows

abbrev pub total_sum : Part → List (List Cell) → Option ℤ
total_sum part rows = fold (λ sum row. plus_sum sum (summed part row)) None rows

abbrev pub least_in : ℕ → List (List Cell) → Option Value
least_in place rows = fold (λ best row. lower best (some_value (value_of (cell_in row place)))) None rows

abbrev pub greatest_in : ℕ → List (List Cell) → Option Value
greatest_in place rows = fold (λ best row. higher best (some_value (value_of (cell_in row place)))) None rows

abbrev pub different_in : ℕ → List (List Cell) → List Value
different_in place rows = fold (λ set row. with_some (some_value (value_of (cell_in row place))) set) [] rows

abbrev pub sum_cell : Option ℤ → Cell
sum_cell None = cell.Null
sum_cell (Some n) = cell.Whole n

abbrev pub value_cell : Option Value → Cell
value_cell None = cell.Null
value_cell (Some v) = cell_of v

-- the sum over the count, not reduced
abbrev pub average_cell : Option ℤ → ℕ → Cell
average_cell None count = cell.Null
average_cell (Some sum) count = cell.Ratio (record { sum = sum; others = count - 1 })

-- a measure over the held rows of a group
abbrev pub cell_over : List (List Cell) → Source → Cell
cell_over rows (Count part) = cell.Whole (pos (total_count part rows))
cell_over rows (Sum part) = sum_cell (total_sum part rows)
cell_over rows (Least place) = value_cell (least_in place rows)
cell_over rows (Greatest place) = value_cell (greatest_in place rows)
cell_over rows (Different place) = count_cell (different_in place rows)
cell_over rows (Average sums counts) = average_cell (total_sum sums rows) (total_count counts rows)

-- how keys are made of held rows, and which of these are kept
pub record Plan : Type 0 where
  pub made : List Made
  pub filters : List Predicate
  pub places : List (Option ℕ)

abbrev pub is_kept : Plan → List Cell → Bool
is_kept plan row = passes plan.filters plan.places row

-- the held rows that belong to a key
abbrev pub group_of : Plan → List (List Cell) → List Value → List (List Cell)
group_of plan held key = filter (λ row. is_kept plan row && is_eq (key_cmp key (made_key plan.made row))) held

-- the keys that the held rows have
abbrev pub keys_by : List Made → List (List Value) → List (List Value)
keys_by [] keys = [] ∷ []
keys_by (m ∷ made) keys = set_of key_cmp keys

abbrev pub keys_in : Plan → List (List Cell) → List (List Value)
keys_in plan held = keys_by plan.made (map (made_key plan.made) (filter (is_kept plan) held))

abbrev pub derived_row : List Source → List (List Cell) → List Value → List Cell
derived_row sources rows key = map cell_of key ++ map (cell_over rows) sources

abbrev pub derived : Plan → List Source → List (List Cell) → List (List Cell)
derived plan sources held = map (λ key. derived_row sources (group_of plan held key) key) (keys_in plan held)

-- the held rows at places
abbrev pub rows_at : List (List Cell) → List ℕ → List (List Cell)
rows_at held places = map (λ place. slice_index_or held place []) places

-- these are the rows of q's answer, in no order yet, derived from the rows of p's
pub record IsDerived (p q : Query) (held items : List (List Cell)) : Type 0 where
  pub plan : Plan
  pub sources : List Source
  pub made : Paired (IsMade p.dims) q.dims plan.made
  pub filters : plan.filters ≡ q.filters
  pub places : Paired (IsPlaced p.dims) q.filters plan.places
  pub from : Paired (IsSource p q) q.measures sources
  pub rows : items ≡ derived plan sources held
