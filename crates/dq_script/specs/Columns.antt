-- The columns and extracts that a script writes.
use Rattle.std.specs.Prelude.{ℕ, List, [], ◌∷◌, ◌++◌, Bool, ◌&&◌, Option, Some, None, nat_le, length, if◌then◌else◌, codes}
use Rattle.std.specs.List.{list_all}
use Rattle.serde_json.specs.Data.{Data}
use Rattle.dq_base.specs.Headings.{Heading}
use Rattle.dq_base.specs.Limits.{most_extracts, most_columns}
use Rattle.dq_base.specs.declared.schema.Sort.{Sort}
use Rattle.dq_base.specs.declared.schema.Sort.TheVariants as sort
use Rattle.dq_script.specs.Arrays.{items_after, array_after}
use Rattle.dq_script.specs.Objects.{object_of, wanted}
use Rattle.dq_script.specs.Parts.{is_string, new_name, two_items, some_items}
use Rattle.dq_script.specs.Readings.{Reading, given, within, mapped, both, and_then}
use Rattle.dq_script.specs.declared.columns.Column.{Column}
use Rattle.dq_script.specs.declared.columns.Columns.{Columns}
use Rattle.dq_script.specs.declared.extracts.Extract.{Extract}
use Rattle.dq_script.specs.declared.extracts.Extracts.{Extracts}

-- "text" or "whole"
abbrev pub sort_of : Data → Option Sort
sort_of d = if is_string (codes "text") d then Some sort.Word else if is_string (codes "whole") d then Some sort.Whole else None

abbrev pub column_with : (List ℕ × Sort) → Column
column_with p = record { name = p.0; sort = p.1 }

abbrev pub column_parts : List (List ℕ) → (Data × Data) → Reading (List ℕ × Sort)
column_parts earlier p = both (within (codes "0") (given (new_name earlier p.0))) (within (codes "1") (given (sort_of p.1)))

-- an array of a name, which no earlier column has, and a sort
abbrev pub column_of : List (List ℕ) → Data → Reading Column
column_of earlier d = mapped column_with (and_then (column_parts earlier) (given (two_items d)))

abbrev pub with_column : Columns → Column → Columns
with_column cs c = record { names = cs.names ++ c.name ∷ []; sorts = cs.sorts ++ c.sort ∷ [] }

abbrev pub next_column : Columns → Data → Reading Columns
next_column cs d = mapped (with_column cs) (column_of cs.names d)

abbrev pub no_columns : Columns
no_columns = record { names = []; sorts = [] }

abbrev pub heading_with : Columns → Heading
heading_with cs = record { names = cs.names; sorts = cs.sorts }

-- an array of columns that isn't empty
abbrev pub columns_of : Data → Reading Heading
columns_of d = mapped heading_with (and_then (items_after next_column 0 no_columns) (given (some_items d)))

abbrev pub extract_with : (List ℕ × Heading) → Extract
extract_with p = record { name = p.0; schema = p.1 }

-- an object of a name, which no earlier extract has, and columns
abbrev pub extract_of : List (List ℕ) → Data → Reading Extract
extract_of earlier d = object_of (codes "name" ∷ codes "columns" ∷ [])
    (mapped extract_with (both (wanted (codes "name") (λ n. given (new_name earlier n)) d) (wanted (codes "columns") columns_of d))) d

abbrev pub with_extract : Extracts → Extract → Extracts
with_extract es e = record { names = es.names ++ e.name ∷ []; schemas = es.schemas ++ e.schema ∷ [] }

abbrev pub next_extract : Extracts → Data → Reading Extracts
next_extract es d = mapped (with_extract es) (extract_of es.names d)

abbrev pub no_extracts : Extracts
no_extracts = record { names = []; schemas = [] }

-- an array of extracts
abbrev pub extracts_of : Data → Reading Extracts
extracts_of d = array_after next_extract no_extracts d

-- columns within their limit
abbrev pub columns_fit : Heading → Bool
columns_fit h = nat_le (length h.names) most_columns

-- extracts and columns within their limits
abbrev pub extracts_fit : Extracts → Bool
extracts_fit es = nat_le (length es.names) most_extracts && list_all columns_fit es.schemas

-- the extracts over which names are told: none where a limit is passed, since the script is refused then
abbrev pub known : Extracts → Extracts
known es = if extracts_fit es then es else no_extracts
