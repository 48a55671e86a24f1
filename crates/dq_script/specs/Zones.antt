-- The zones that a script writes.
use Rattle.std.specs.Prelude.{ℕ, zero, suc, List, [], ◌∷◌, Bool, true, false, Option, Some, None, option_map, option_and_then, slice_get, Ok, map, if◌then◌else◌, codes}
use Rattle.serde_json.specs.Data.{Data, Items}
use Rattle.serde_json.specs.Find.{as_str, as_array}
use Rattle.dq_base.specs.Dims.{Dimension, plain}
use Rattle.dq_base.specs.Headings.{Heading}
use Rattle.dq_base.specs.declared.predicate.Predicate.{Predicate}
use Rattle.dq_base.specs.declared.query.Measure.{Measure}
use Rattle.dq_base.specs.declared.query.OrderKey.{OrderKey}
use Rattle.dq_base.specs.declared.query.Query.{Query}
use Rattle.dq_script.specs.Arrays.{array_of}
use Rattle.dq_script.specs.Filters.{filter_of}
use Rattle.dq_script.specs.Measures.{measure_of}
use Rattle.dq_script.specs.Objects.{object_of, wanted, optional}
use Rattle.dq_script.specs.Parts.{is_string, three, two_items, number_of, place_in, most_place}
use Rattle.dq_script.specs.Readings.{Reading, given, kept_if, within, mapped, both, and_then}
use Rattle.dq_script.specs.declared.extracts.Extracts.{Extracts}
use Rattle.dq_script.specs.declared.dims.Grouping.{Grouping}
use Rattle.dq_script.specs.declared.zone.Zone.{Zone}

-- the number of the extract that is named, that of all extracts where none is
abbrev pub source_in : Extracts → Data → Reading ℕ
source_in es d = given (option_map (place_in es.names) (as_str d))

abbrev pub heading_names : Option Heading → List (List ℕ)
heading_names None = []
heading_names (Some h) = h.names

-- the columns' names of an extract by its number, none where there is no such extract
abbrev pub columns_at : List Heading → ℕ → List (List ℕ)
columns_at schemas source = heading_names (slice_get schemas source)

-- dimensions

-- a dimension under its column's name as it is written
abbrev pub grouping_with : List ℕ → Dimension → Grouping
grouping_with name dim = record { name = name; dim = dim }

-- a column in bands of this width, which isn't 0
abbrev pub banded : ℕ → ℕ → Option Dimension
banded column zero = None
banded column (suc beyond) = Some (record { column = column; beyond = beyond })

abbrev pub width_of : ℕ → Data → Reading Dimension
width_of column d = given (option_and_then (banded column) (number_of 0 most_place d))

abbrev pub named_band : List (List ℕ) → Data → List ℕ → Reading Grouping
named_band names width name = mapped (grouping_with name) (within (codes "2") (width_of (place_in names name) width))

abbrev pub band_word : Data → Reading (Unit {0})
band_word d = given (kept_if (is_string (codes "band") d) tt)

abbrev pub band_parts : List (List ℕ) → (Data × Data × Data) → Reading Grouping
band_parts names p = and_then (λ u. and_then (named_band names p.2) (within (codes "1") (given (as_str p.1)))) (within (codes "0") (band_word p.0))

-- an array of "band", a column and a width
abbrev pub band_in : List (List ℕ) → Items → Reading Grouping
band_in names ds = and_then (band_parts names) (given (three ds))

-- a column's name alone is a width of 1
abbrev pub grouping_at : List (List ℕ) → Option (List ℕ) → Data → Reading Grouping
grouping_at names (Some name) d = Ok (grouping_with name (plain (place_in names name)))
grouping_at names None d = and_then (band_in names) (given (as_array d))

-- a column's name, or an array of "band", a column's name and a width
abbrev pub grouping_of : List (List ℕ) → Data → Reading Grouping
grouping_of names d = grouping_at names (as_str d) d

-- order

-- whether an order goes down
abbrev pub way_of : Data → Option Bool
way_of d = if is_string (codes "up") d then Some false else if is_string (codes "down") d then Some true else None

abbrev pub key_parts : (Data × Data) → Reading (ℕ × Bool)
key_parts p = both (within (codes "0") (given (number_of 0 most_place p.0))) (within (codes "1") (given (way_of p.1)))

abbrev pub key_with : (ℕ × Bool) → OrderKey
key_with p = record { place = p.0; down = p.1 }

-- an array of a place and a way
abbrev pub key_of : Data → Reading OrderKey
key_of d = mapped key_with (and_then key_parts (given (two_items d)))

abbrev pub top_of : Data → Reading (Option ℕ)
top_of d = mapped Some (given (number_of 0 most_place d))

-- zones

abbrev pub query_with : ℕ → ((List Predicate × List Grouping) × (List Measure × (List OrderKey × Option ℕ))) → Query
query_with source p = record { source = source; filters = p.0.0; dims = map (λ g. g.dim) p.0.1; measures = p.1.0; order = p.1.1.0; top = p.1.1.1 }

abbrev pub zone_with : ℕ → ((List Predicate × List Grouping) × (List Measure × (List OrderKey × Option ℕ))) → Zone
zone_with source p = record { query = query_with source p; by = p.0.1 }

-- what a zone asks of columns of these names
abbrev pub asked_of : List (List ℕ) → Data → Reading ((List Predicate × List Grouping) × (List Measure × (List OrderKey × Option ℕ)))
asked_of names d = both
    (both (optional [] (codes "filters") (array_of (filter_of names)) d) (optional [] (codes "by") (array_of (grouping_of names)) d))
    (both (optional [] (codes "show") (array_of (measure_of names)) d)
    (both (optional [] (codes "order") (array_of key_of) d) (optional None (codes "top") top_of d)))

abbrev pub zone_over : Extracts → Data → ℕ → Reading Zone
zone_over es d source = mapped (zone_with source) (asked_of (columns_at es.schemas source) d)

-- an object of a source and what is asked of it
abbrev pub zone_of : Extracts → Data → Reading Zone
zone_of es d = object_of (codes "source" ∷ codes "filters" ∷ codes "by" ∷ codes "show" ∷ codes "order" ∷ codes "top" ∷ [])
    (and_then (zone_over es d) (wanted (codes "source") (source_in es) d)) d
