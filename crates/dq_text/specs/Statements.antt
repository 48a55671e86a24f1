-- The text of a statement.
use Rattle.std.specs.Prelude.{ℕ, ℤ, Bool, true, false, nat_le, List, [], ◌∷◌, ◌++◌, Option, Some, None, codes, if◌then◌else◌}
use Rattle.std.specs.List.{flat_map}
use Rattle.std.specs.Fmt.{decimal, signed_decimal}
use Rattle.dq_base.specs.Dims.{Dimension, width_of}
use Rattle.dq_base.specs.Spelling.{Bytes, spelled}
use Rattle.dq_base.specs.declared.value.Value.{Value}
use Rattle.dq_base.specs.declared.value.Value.TheVariants as value
use Rattle.dq_base.specs.declared.predicate.Test.{Test}
use Rattle.dq_base.specs.declared.predicate.Test.TheVariants as test
use Rattle.dq_base.specs.declared.predicate.Predicate.{Predicate}
use Rattle.dq_base.specs.declared.query.Measure.{Measure}
use Rattle.dq_base.specs.declared.query.Measure.TheVariants.{Rows, Count, Sum, Min, Max, Distinct, Avg}
use Rattle.dq_base.specs.declared.query.OrderKey.{OrderKey}
use Rattle.dq_base.specs.declared.query.Query.{Query}
use Rattle.dq_text.specs.declared.statement.Listed.{Listed}
use Rattle.dq_text.specs.declared.statement.Listed.TheVariants.{Spelled, Named}
use Rattle.dq_text.specs.declared.statement.SaidTest.{SaidTest}
use Rattle.dq_text.specs.declared.statement.SaidTest.TheVariants.{Among, Except, Between}
use Rattle.dq_text.specs.declared.statement.SaidPredicate.{SaidPredicate}
use Rattle.dq_text.specs.declared.statement.Statement.{Statement}

-- an item behind a comma
abbrev pub after_comma : {X : Type 0} → (X → Bytes) → X → Bytes
after_comma f x = 44 ∷ [] ++ f x

-- the items with commas between them
abbrev pub joined : {X : Type 0} → (X → Bytes) → List X → Bytes
joined f [] = []
joined f (x ∷ xs) = f x ++ flat_map (after_comma f) xs

-- a word and the items, or nothing where there are none
abbrev pub clause : {X : Type 0} → Bytes → (X → Bytes) → List X → Bytes
clause word f [] = []
clause word f (x ∷ xs) = word ++ joined f (x ∷ xs)

abbrev pub column_text : ℕ → Bytes
column_text column = 99 ∷ [] ++ decimal column

-- a slash and the width, or nothing where it is 1
abbrev pub width_text : ℕ → Bytes
width_text width = if nat_le width 1 then [] else 47 ∷ [] ++ decimal width

-- a column, and the width of its bands
abbrev pub dim_text : Dimension → Bytes
dim_text d = column_text d.column ++ width_text (width_of d)

abbrev pub value_text : Value → Bytes
value_text value.Null = codes "null"
value_text (value.Int n) = signed_decimal n
value_text (value.Word text) = spelled text

-- the values between brackets, or a table's number
abbrev pub list_text : Listed → Bytes
list_text (Spelled values) = 40 ∷ [] ++ joined value_text values ++ 41 ∷ []
list_text (Named table) = 35 ∷ [] ++ decimal table

-- a bound, or a star for a missing one
abbrev pub bound_text : Option ℤ → Bytes
bound_text None = 42 ∷ []
bound_text (Some n) = signed_decimal n

abbrev pub test_text : SaidTest → Bytes
test_text (Among list) = codes " among " ++ list_text list
test_text (Except list) = codes " except " ++ list_text list
test_text (Between low high) = codes " between " ++ (bound_text low ++ (codes ".." ++ bound_text high))

abbrev pub where_text : SaidPredicate → Bytes
where_text p = codes " where " ++ (column_text p.column ++ test_text p.test)

abbrev pub measure_text : Measure → Bytes
measure_text Rows = codes "rows"
measure_text (Count column) = codes "count " ++ column_text column
measure_text (Sum column) = codes "sum " ++ column_text column
measure_text (Min column) = codes "min " ++ column_text column
measure_text (Max column) = codes "max " ++ column_text column
measure_text (Distinct column) = codes "countd " ++ column_text column
measure_text (Avg column) = codes "avg " ++ column_text column

-- a minus for down, a plus for up
abbrev pub way_text : Bool → Bytes
way_text true = 45 ∷ []
way_text false = 43 ∷ []

abbrev pub key_text : OrderKey → Bytes
key_text k = decimal k.place ++ way_text k.down

abbrev pub top_text : Option ℕ → Bytes
top_text None = []
top_text (Some n) = codes " top " ++ decimal n

-- what stands behind the filters
abbrev pub shown_text : List Dimension → List Measure → List OrderKey → Option ℕ → Bytes
shown_text dims measures order top =
    clause (codes " by ") dim_text dims ++ (clause (codes " show ") measure_text measures ++ (clause (codes " order ") key_text order ++ top_text top))

-- the text of a statement
abbrev pub spelling : Statement → Bytes
spelling s =
    codes "from " ++ (decimal s.source ++ (64 ∷ [] ++ (decimal s.stamp ++ (flat_map where_text s.filters ++ shown_text s.dims s.measures s.order s.top))))

-- a test with its list spelled
abbrev pub plain_test : Test → SaidTest
plain_test (test.Among list) = Among (Spelled list)
plain_test (test.Except list) = Except (Spelled list)
plain_test (test.Between low high) = Between low high

abbrev pub plain_predicate : Predicate → SaidPredicate
plain_predicate p = record { column = p.column; test = plain_test p.test }

abbrev pub plain_where : Predicate → Bytes
plain_where p = where_text (plain_predicate p)

-- the text of a query: without a stamp, and with every list spelled
abbrev pub body : Query → Bytes
body q = codes "from " ++ (decimal q.source ++ (flat_map plain_where q.filters ++ shown_text q.dims q.measures q.order q.top))
