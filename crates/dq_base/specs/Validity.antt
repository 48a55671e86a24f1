-- Which queries are valid.
use Rattle.std.specs.Prelude.{ℕ, ◌+◌, Bool, true, false, ◌||◌, ◌&&◌, not, nat_lt, nat_le, nat_eq, ◌==◌, List, [], ◌∷◌, length, slice_get, Option, Some, None, if◌then◌else◌}
use Rattle.std.specs.List.{list_any, list_all}
use Rattle.dq_base.specs.Dims.{Dimension, dim_eq, is_plain}
use Rattle.dq_base.specs.Headings.{Heading}
use Rattle.dq_base.specs.declared.value.Value.{Value}
use Rattle.dq_base.specs.declared.value.Value.TheVariants as value
use Rattle.dq_base.specs.declared.schema.Sort.{Sort}
use Rattle.dq_base.specs.declared.schema.Sort.TheVariants as sort
use Rattle.dq_base.specs.declared.predicate.Test.{Test}
use Rattle.dq_base.specs.declared.predicate.Test.TheVariants.{Among, Except, Between}
use Rattle.dq_base.specs.declared.query.Measure.{Measure}
use Rattle.dq_base.specs.declared.query.Measure.TheVariants.{Rows, Count, Sum, Min, Max, Distinct, Avg}
use Rattle.dq_base.specs.declared.query.Query.{Query}
use Rattle.dq_base.specs.declared.invalid.Invalid.{Invalid}
use Rattle.dq_base.specs.declared.invalid.Invalid.TheVariants as invalid

abbrev pub measured : Measure → List ℕ
measured Rows = []
measured (Count c) = c ∷ []
measured (Sum c) = c ∷ []
measured (Min c) = c ∷ []
measured (Max c) = c ∷ []
measured (Distinct c) = c ∷ []
measured (Avg c) = c ∷ []

-- a column number that isn't below the number of columns, anywhere
abbrev pub column_missing : ℕ → Query → Bool
column_missing n q =
    list_any (λ p. nat_le n p.column) q.filters || list_any (λ d. nat_le n d.column) q.dims || list_any (λ m. list_any (nat_le n) (measured m)) q.measures

-- some dimension, with its width, is in the list again
abbrev pub repeats : List Dimension → Bool
repeats [] = false
repeats (d ∷ ds) = list_any (dim_eq d) ds || repeats ds

abbrev pub is_whole_sort : Option Sort → Bool
is_whole_sort None = false
is_whole_sort (Some sort.Whole) = true
is_whole_sort (Some sort.Word) = false

abbrev pub is_whole : List Sort → ℕ → Bool
is_whole sorts c = is_whole_sort (slice_get sorts c)

-- null, or a value of the column's sort
abbrev pub fits_sort : Bool → Value → Bool
fits_sort whole value.Null = true
fits_sort whole (value.Int n) = whole
fits_sort whole (value.Word t) = not whole

abbrev pub test_fits : Bool → Test → Bool
test_fits whole (Among list) = list_all (fits_sort whole) list
test_fits whole (Except list) = list_all (fits_sort whole) list
test_fits whole (Between low high) = whole

abbrev pub measure_fits : List Sort → Measure → Bool
measure_fits sorts Rows = true
measure_fits sorts (Count c) = true
measure_fits sorts (Sum c) = is_whole sorts c
measure_fits sorts (Min c) = true
measure_fits sorts (Max c) = true
measure_fits sorts (Distinct c) = true
measure_fits sorts (Avg c) = is_whole sorts c

-- only whole numbers fall into bands
abbrev pub dim_fits : List Sort → Dimension → Bool
dim_fits sorts d = is_plain d || is_whole sorts d.column

abbrev pub sorts_fit : List Sort → Query → Bool
sorts_fit sorts q =
    list_all (λ p. test_fits (is_whole sorts p.column) p.test) q.filters && list_all (dim_fits sorts) q.dims && list_all (measure_fits sorts) q.measures

abbrev pub shows_nothing : Query → Bool
shows_nothing q = (length q.dims + length q.measures) == 0

abbrev pub place_missing : Query → Bool
place_missing q = list_any (λ k. (k.place == 0) || nat_lt (length q.dims + length q.measures) k.place) q.order

abbrev pub list_too_long : Test → Bool
list_too_long (Among list) = nat_lt 100000 (length list)
list_too_long (Except list) = nat_lt 100000 (length list)
list_too_long (Between low high) = false

abbrev pub too_long : Query → Bool
too_long q = nat_lt 16 (length q.filters) || nat_lt 64 (length q.dims) || nat_lt 512 (length q.measures) || nat_lt 64 (length q.order) || list_any (λ p. list_too_long p.test) q.filters

-- the first reason that holds
abbrev pub first_reason : List Sort → Query → Option Invalid
first_reason sorts q =
    if column_missing (length sorts) q then Some invalid.Column
    else if repeats q.dims then Some invalid.RepeatedDim
    else if not (sorts_fit sorts q) then Some invalid.WrongSort
    else if shows_nothing q then Some invalid.NothingShown
    else if place_missing q then Some invalid.OrderKey
    else if too_long q then Some invalid.TooLong
    else None

abbrev pub reason_at : Option Heading → Query → Option Invalid
reason_at None q = Some invalid.Source
reason_at (Some schema) q = first_reason schema.sorts q

-- why a query isn't valid, if it isn't
abbrev pub invalid_by : List Heading → Query → Option Invalid
invalid_by schemas q = reason_at (slice_get schemas q.source) q
