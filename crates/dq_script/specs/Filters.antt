-- The filters that a script writes, over columns of these names.
use Rattle.std.specs.Prelude.{ℕ, ℤ, List, [], ◌∷◌, Bool, true, false, ◌||◌, not, Option, Some, None, option_map, if◌then◌else◌, codes}
use Rattle.serde_json.specs.Data.{Data}
use Rattle.serde_json.specs.Find.{as_str}
use Rattle.dq_base.specs.declared.value.Value.{Value}
use Rattle.dq_base.specs.declared.value.Value.TheVariants.{Null, Int, Word}
use Rattle.dq_base.specs.declared.predicate.Test.{Test}
use Rattle.dq_base.specs.declared.predicate.Test.TheVariants.{Among, Except, Between}
use Rattle.dq_base.specs.declared.predicate.Predicate.{Predicate}
use Rattle.dq_script.specs.Arrays.{array_of}
use Rattle.dq_script.specs.Objects.{has, object_of, wanted}
use Rattle.dq_script.specs.Parts.{is_null, whole_of, two_items, place_in}
use Rattle.dq_script.specs.Readings.{Reading, given, provided, within, mapped, both, and_then}

-- the number of the column that is named: that of all columns where none is, which is 0 where there are none
abbrev pub column_in : List (List ℕ) → Data → Reading ℕ
column_in names d = given (option_map (place_in names) (as_str d))

abbrev pub plain : Option ℤ → Option (List ℕ) → Option Value
plain (Some i) text = Some (Int i)
plain None None = None
plain None (Some s) = Some (Word s)

-- null, a whole number or a string
abbrev pub value_of : Data → Reading Value
value_of d = given (if is_null d then Some Null else plain (whole_of d) (as_str d))

abbrev pub values_of : Data → Reading (List Value)
values_of d = array_of value_of d

-- null or a whole number
abbrev pub bound_of : Data → Reading (Option ℤ)
bound_of d = given (if is_null d then Some None else option_map Some (whole_of d))

abbrev pub bounds : (Data × Data) → Reading (Option ℤ × Option ℤ)
bounds p = both (within (codes "0") (bound_of p.0)) (within (codes "1") (bound_of p.1))

abbrev pub between_with : (Option ℤ × Option ℤ) → Test
between_with p = Between p.0 p.1

-- an array of the two bounds
abbrev pub between_of : Data → Reading Test
between_of d = mapped between_with (and_then bounds (given (two_items d)))

-- exactly one of three
abbrev pub one_of : Bool → Bool → Bool → Bool
one_of true b c = not (b || c)
one_of false true c = not c
one_of false false c = c

-- an object with one of the three tests
abbrev pub has_test : Data → Bool
has_test d = one_of (has (codes "among") d) (has (codes "except") d) (has (codes "between") d)

-- the test that is there
abbrev pub test_of : Data → Reading Test
test_of d =
    if has (codes "among") d then mapped Among (wanted (codes "among") values_of d)
    else if has (codes "except") d then mapped Except (wanted (codes "except") values_of d)
    else wanted (codes "between") between_of d

abbrev pub filter_with : (ℕ × Test) → Predicate
filter_with p = record { column = p.0; test = p.1 }

-- an object of a column and one test
abbrev pub filter_of : List (List ℕ) → Data → Reading Predicate
filter_of names d = provided (has_test d)
    (object_of (codes "column" ∷ codes "among" ∷ codes "except" ∷ codes "between" ∷ []) (mapped filter_with (both (wanted (codes "column") (column_in names) d) (test_of d))) d)
