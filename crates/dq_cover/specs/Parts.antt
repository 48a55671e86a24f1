-- Which parts of each column a query's answer shows.
use Rattle.std.specs.Prelude.{◌≡◌, ℕ, ◌+◌, ◌*◌, ◌<◌, Bool, false, List, length, slice_index_or}
use Rattle.std.specs.List.{list_any}
use Rattle.dq_base.specs.Covering.{groups_by, measure_eq}
use Rattle.dq_base.specs.declared.query.Measure.{Measure}
use Rattle.dq_base.specs.declared.query.Measure.TheVariants.{Rows, Count, Sum, Min, Max, Distinct, Avg}
use Rattle.dq_base.specs.declared.query.Query.{Query}
use Rattle.dq_cover.specs.declared.parts.Parts.{Parts}

-- a place of its own for each measure, column by column
abbrev pub place_of : Measure → ℕ
place_of Rows = 0
place_of (Count c) = 6 * c + 1
place_of (Sum c) = 6 * c + 2
place_of (Min c) = 6 * c + 3
place_of (Max c) = 6 * c + 4
place_of (Distinct c) = 6 * c + 5
place_of (Avg c) = 6 * c + 6

-- a measure whose place is among the marks is in the list exactly where its mark is set
abbrev pub AreMarks : List Bool → List Measure → Type 0
AreMarks marks measures = (m : Measure) → place_of m < length marks → slice_index_or marks (place_of m) false ≡ list_any (measure_eq m) measures

-- a column among the marks has a plain dimension exactly where its mark is set
abbrev pub AreColumns : List Bool → Query → Type 0
AreColumns marks q = (c : ℕ) → c < length marks → slice_index_or marks c false ≡ groups_by q c

-- the parts of the query
abbrev pub AreParts : Parts → Query → Type 0
AreParts parts q = AreMarks parts.shown q.measures × AreColumns parts.grouped q
