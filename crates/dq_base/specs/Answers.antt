-- What the answer of a query is.
use Rattle.std.specs.Prelude.{ℕ, ℤ, pos, ◌+ℤ◌, ◌-◌, Bool, true, false, List, [], ◌∷◌, ◌++◌, map, length, take, slice_index_or, Option, Some, None, if◌then◌else◌}
use Rattle.std.specs.List.{filter, fold}
use Rattle.std.specs.declared.cmp.Ordering.{Ordering}
use Rattle.std.specs.declared.cmp.Ordering.TheVariants.{Equal}
use Rattle.std.specs.Ordering.{is_lt, is_gt, is_eq, ordering_then, ordering_reverse}
use Rattle.std.specs.Cmp.Lexicographic.{slice_cmp}
use Rattle.dq_base.specs.Dims.{Dimension, banded, is_plain, width_of}
use Rattle.dq_base.specs.Filters.{value_at, kept}
use Rattle.dq_base.specs.Orders.{value_cmp, key_cmp, cell_cmp}
use Rattle.dq_base.specs.Sets.{set_of, ascending}
use Rattle.dq_base.specs.declared.value.Value.{Value}
use Rattle.dq_base.specs.declared.value.Value.TheVariants as value
use Rattle.dq_base.specs.declared.cell.Cell.{Cell}
use Rattle.dq_base.specs.declared.cell.Cell.TheVariants as cell
use Rattle.dq_base.specs.declared.query.Measure.{Measure}
use Rattle.dq_base.specs.declared.query.Measure.TheVariants.{Rows, Count, Sum, Min, Max, Distinct, Avg}
use Rattle.dq_base.specs.declared.query.OrderKey.{OrderKey}
use Rattle.dq_base.specs.declared.query.Query.{Query}

-- the value of a dimension in a row: that of its column, or where the width is above 1 the number of its band
abbrev pub value_in : List Value → Dimension → Value
value_in row d = if is_plain d then value_at row d.column else banded (width_of d) (value_at row d.column)

-- a row's values in the dimensions
abbrev pub key_of : List Dimension → List Value → List Value
key_of dims row = map (value_in row) dims

-- the different keys of the rows, ascending; without dimensions the one empty key, also over no rows
abbrev pub keys_of : List Dimension → List (List Value) → List (List Value)
keys_of [] rows = [] ∷ []
keys_of (d ∷ dims) rows = set_of key_cmp (map (key_of (d ∷ dims)) rows)

abbrev pub keys : Query → List (List Value) → List (List Value)
keys q rows = keys_of q.dims (kept q rows)

-- the rows that have a key
abbrev pub rows_with : List Dimension → List Value → List (List Value) → List (List Value)
rows_with dims key rows = filter (λ row. is_eq (key_cmp key (key_of dims row))) rows

abbrev pub is_present : Value → Bool
is_present value.Null = false
is_present (value.Int n) = true
is_present (value.Word t) = true

-- the values of a column that aren't null
abbrev pub present : ℕ → List (List Value) → List Value
present column rows = filter is_present (map (λ row. value_at row column) rows)

abbrev pub number_of : Value → ℤ
number_of value.Null = pos 0
number_of (value.Int n) = n
number_of (value.Word t) = pos 0

abbrev pub total : List Value → ℤ
total values = fold (λ sum v. sum +ℤ number_of v) (pos 0) values

abbrev pub lesser : Value → Value → Value
lesser a b = if is_lt (value_cmp b a) then b else a

abbrev pub greater : Value → Value → Value
greater a b = if is_gt (value_cmp b a) then b else a

abbrev pub cell_of : Value → Cell
cell_of value.Null = cell.Null
cell_of (value.Int n) = cell.Whole n
cell_of (value.Word t) = cell.Word t

abbrev pub sum_of : List Value → Cell
sum_of [] = cell.Null
sum_of (v ∷ vs) = cell.Whole (total (v ∷ vs))

abbrev pub least_of : List Value → Cell
least_of [] = cell.Null
least_of (v ∷ vs) = cell_of (fold lesser v vs)

abbrev pub greatest_of : List Value → Cell
greatest_of [] = cell.Null
greatest_of (v ∷ vs) = cell_of (fold greater v vs)

-- the sum and the count, not reduced
abbrev pub average_of : List Value → Cell
average_of [] = cell.Null
average_of (v ∷ vs) = cell.Ratio (record { sum = total (v ∷ vs); others = length vs })

abbrev pub count_cell : {X : Type 0} → List X → Cell
count_cell xs = cell.Whole (pos (length xs))

-- a measure over rows
abbrev pub fold_of : Measure → List (List Value) → Cell
fold_of Rows rows = count_cell rows
fold_of (Count c) rows = count_cell (present c rows)
fold_of (Sum c) rows = sum_of (present c rows)
fold_of (Min c) rows = least_of (present c rows)
fold_of (Max c) rows = greatest_of (present c rows)
fold_of (Distinct c) rows = count_cell (set_of value_cmp (present c rows))
fold_of (Avg c) rows = average_of (present c rows)

-- a key's values, and then each measure over the key's rows
abbrev pub group_row : Query → List (List Value) → List Value → List Cell
group_row q rows key = map cell_of key ++ map (λ m. fold_of m (rows_with q.dims key rows)) q.measures

abbrev pub plain : Query → List (List Value) → List (List Cell)
plain q rows = map (group_row q (kept q rows)) (keys q rows)

-- the cell at a place, from 1
abbrev pub cell_at : List Cell → ℕ → Cell
cell_at row place = slice_index_or row (place - 1) cell.Null

abbrev pub directed : Bool → Ordering → Ordering
directed false o = o
directed true o = ordering_reverse o

-- the order keys in turn
abbrev pub by_order : List OrderKey → List Cell → List Cell → Ordering
by_order [] a b = Equal
by_order (k ∷ ks) a b = ordering_then (directed k.down (cell_cmp (cell_at a k.place) (cell_at b k.place))) (by_order ks a b)

-- the order keys in turn, and then the key
abbrev pub row_cmp : Query → List Cell → List Cell → Ordering
row_cmp q a b = let n = length q.dims in ordering_then (by_order q.order a b) (slice_cmp cell_cmp (take n a) (take n b))

abbrev pub first_rows : {X : Type 0} → Option ℕ → List X → List X
first_rows None rows = rows
first_rows (Some n) rows = take n rows

-- the answer of a query over rows
abbrev pub answer : Query → List (List Value) → List (List Cell)
answer q rows = first_rows q.top (ascending (row_cmp q) (plain q rows))
