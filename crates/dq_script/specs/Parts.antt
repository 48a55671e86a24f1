-- What the parts of a JSON value are.
use Rattle.std.specs.Prelude.{ℕ, ℤ, pos, negsuc, List, [], ◌∷◌, Bool, false, ◌&&◌, nat_le, Option, Some, None, is_some, option_and_then, unwrap_or, position, length, if◌then◌else◌}
use Rattle.std.specs.Str.{bytes_eq}
use Rattle.serde_json.specs.Data.{Data, Items, no_items, item}
use Rattle.serde_json.specs.Find.{as_null, as_number, as_i64, as_str, as_array}
use Rattle.dq_script.specs.Places.{is_new, text_cmp}
use Rattle.dq_script.specs.Readings.{kept_if}

abbrev pub is_text : List ℕ → Option (List ℕ) → Bool
is_text text None = false
is_text text (Some s) = bytes_eq s text

-- whether a value is this string
abbrev pub is_string : List ℕ → Data → Bool
is_string text d = is_text text (as_str d)

abbrev pub unless_empty : List ℕ → Option (List ℕ)
unless_empty [] = None
unless_empty (b ∷ bs) = Some (b ∷ bs)

-- a string that isn't empty
abbrev pub string_of : Data → Option (List ℕ)
string_of d = option_and_then unless_empty (as_str d)

abbrev pub unless_old : List (List ℕ) → List ℕ → Option (List ℕ)
unless_old earlier name = kept_if (is_new text_cmp earlier name) name

-- a string that isn't empty, and none of these
abbrev pub new_name : List (List ℕ) → Data → Option (List ℕ)
new_name earlier d = option_and_then (unless_old earlier) (string_of d)

-- the one item
abbrev pub only : Items → Option Data
only no_items = None
only (item d no_items) = Some d
only (item d (item e ds)) = None

-- the two items
abbrev pub two : Items → Option (Data × Data)
two no_items = None
two (item d no_items) = None
two (item d (item e no_items)) = Some (d, e)
two (item d (item e (item f ds))) = None

-- the items of an array of two
abbrev pub two_items : Data → Option (Data × Data)
two_items d = option_and_then two (as_array d)

-- the three items
abbrev pub three : Items → Option (Data × Data × Data)
three no_items = None
three (item d no_items) = None
three (item d (item e no_items)) = None
three (item d (item e (item f no_items))) = Some (d, e, f)
three (item d (item e (item f (item g ds)))) = None

abbrev pub some : Items → Option Items
some no_items = None
some (item d ds) = Some (item d ds)

-- the items of an array that isn't empty
abbrev pub some_items : Data → Option Items
some_items d = option_and_then some (as_array d)

-- a whole number
abbrev pub whole_of : Data → Option ℤ
whole_of d = option_and_then as_i64 (as_number d)

abbrev pub between : ℕ → ℕ → ℤ → Option ℕ
between low high (pos n) = kept_if (nat_le low n && nat_le n high) n
between low high (negsuc n) = None

-- a whole number from the one to the other
abbrev pub number_of : ℕ → ℕ → Data → Option ℕ
number_of low high d = option_and_then (between low high) (whole_of d)

-- the largest of the whole numbers, and of those that name a place
abbrev pub most_whole : ℕ
most_whole = 9223372036854775807

abbrev pub most_place : ℕ
most_place = 4294967295

-- the place from 0 of the first of this name, and the number of names where there is none
abbrev pub place_in : List (List ℕ) → List ℕ → ℕ
place_in names name = unwrap_or (position (λ other. bytes_eq other name) names) (length names)

-- whether a value is null
abbrev pub is_null : Data → Bool
is_null d = is_some (as_null d)
