-- The measures that a zone shows, over columns of these names.
use Rattle.std.specs.Prelude.{ℕ, List, [], ◌∷◌, Option, Some, None, Err, if◌then◌else◌, codes}
use Rattle.serde_json.specs.Data.{Data, Items, no_items, item}
use Rattle.serde_json.specs.Find.{as_array}
use Rattle.dq_base.specs.declared.query.Measure.{Measure}
use Rattle.dq_base.specs.declared.query.Measure.TheVariants.{Rows, Count, Sum, Min, Max, Distinct, Avg}
use Rattle.dq_script.specs.Filters.{column_in}
use Rattle.dq_script.specs.Parts.{is_string, only}
use Rattle.dq_script.specs.Readings.{Reading, given, within, mapped, and_then}
use Rattle.dq_script.specs.declared.measures.Kind.{Kind}
use Rattle.dq_script.specs.declared.measures.Kind.TheVariants as kind

-- the seven words of measures
abbrev pub kind_of : Data → Option Kind
kind_of d =
    if is_string (codes "rows") d then Some kind.Rows
    else if is_string (codes "count") d then Some kind.Count
    else if is_string (codes "sum") d then Some kind.Sum
    else if is_string (codes "min") d then Some kind.Min
    else if is_string (codes "max") d then Some kind.Max
    else if is_string (codes "countd") d then Some kind.Distinct
    else if is_string (codes "avg") d then Some kind.Avg
    else None

abbrev pub rows_of : Items → Option Measure
rows_of no_items = Some Rows
rows_of (item d ds) = None

-- a column, which stands alone behind the word
abbrev pub column_by : List (List ℕ) → Items → Reading ℕ
column_by names rest = and_then (λ c. within (codes "1") (column_in names c)) (given (only rest))

-- "rows" stands alone, every other word before a column
abbrev pub measure_by : List (List ℕ) → Items → Kind → Reading Measure
measure_by names rest kind.Rows = given (rows_of rest)
measure_by names rest kind.Count = mapped Count (column_by names rest)
measure_by names rest kind.Sum = mapped Sum (column_by names rest)
measure_by names rest kind.Min = mapped Min (column_by names rest)
measure_by names rest kind.Max = mapped Max (column_by names rest)
measure_by names rest kind.Distinct = mapped Distinct (column_by names rest)
measure_by names rest kind.Avg = mapped Avg (column_by names rest)

-- the word is read before what follows it
abbrev pub measure_in : List (List ℕ) → Items → Reading Measure
measure_in names no_items = Err []
measure_in names (item w rest) = and_then (measure_by names rest) (within (codes "0") (given (kind_of w)))

-- an array of a word, and of a column but behind "rows"
abbrev pub measure_of : List (List ℕ) → Data → Reading Measure
measure_of names d = and_then (measure_in names) (given (as_array d))
