-- The rows of a file of comma-separated values, or its first fault.
use Rattle.std.specs.Prelude.{◌≡◌, ⊤, ℕ, ◌+◌, ◌*◌, ◌==◌, ℤ, List, [], ◌∷◌, length, nat_lt, bytes_eq, Option, Some, None, Result, Ok, Err, if◌then◌else◌}
use Rattle.std.specs.Str.{is_utf8}
use Rattle.std.specs.Cmp.Lexicographic.{pointwise}
use Rattle.csv.specs.Reading.{records, default_config, strip_bom}
use Rattle.dq_base.specs.Headings.{Heading}
use Rattle.dq_base.specs.Versions.{Version}
use Rattle.dq_base.specs.declared.schema.Sort.{Sort}
use Rattle.dq_base.specs.declared.schema.Sort.TheVariants as sort
use Rattle.dq_base.specs.declared.value.Value.{Value}
use Rattle.dq_base.specs.declared.value.Value.TheVariants as value
use Rattle.dq_extract.specs.declared.fault.LoadFault.{LoadFault}
use Rattle.dq_extract.specs.declared.fault.LoadFault.TheVariants as fault
use Rattle.dq_extract.specs.Wholes.{whole_of}

-- why a file has no rows; rows and columns count from 1
pub data RowFault : Type 0 where
  Header : RowFault
  Width : (row : ℕ) → RowFault
  Number : (row column : ℕ) → RowFault
  NotText : (row column : ℕ) → RowFault
  TooManyCells : RowFault

abbrev pub whole_value : RowFault → Option ℤ → Result Value RowFault
whole_value fault None = Err fault
whole_value fault (Some z) = Ok (value.Int z)

abbrev pub full_value : Sort → ℕ → ℕ → List ℕ → Result Value RowFault
full_value sort.Whole row column bytes = whole_value (Number row column) (whole_of bytes)
full_value sort.Word row column bytes = if is_utf8 bytes then Ok (value.Word bytes) else Err (NotText row column)

-- the value of a field of a column of that sort; an empty field is null
abbrev pub value_of : Sort → ℕ → ℕ → List ℕ → Result Value RowFault
value_of s row column [] = Ok value.Null
value_of s row column (b ∷ bs) = full_value s row column (b ∷ bs)

-- an item before those that follow, or the first fault
abbrev pub with_first : {X : Type 0} → Result X RowFault → Result (List X) RowFault → Result (List X) RowFault
with_first (Err fault) more = Err fault
with_first (Ok x) (Err fault) = Err fault
with_first (Ok x) (Ok xs) = Ok (x ∷ xs)

-- the values of a row's fields from a column on
abbrev pub values_from : ℕ → ℕ → List Sort → List (List ℕ) → Result (List Value) RowFault
values_from row column [] fields = Ok []
values_from row column (s ∷ sorts) [] = Ok []
values_from row column (s ∷ sorts) (field ∷ fields) = with_first (value_of s row column field) (values_from row (column + 1) sorts fields)

-- the row of that number, of which there is room for so many cells
abbrev pub row_of : Heading → ℕ → ℕ → List (List ℕ) → Result (List Value) RowFault
row_of heading room row fields =
    if length fields == length heading.names
    then (if nat_lt room (row * length heading.names) then Err TooManyCells else values_from row 1 heading.sorts fields)
    else Err (Width row)

-- the rows of these records, the first of which has that number
abbrev pub rows_from : Heading → ℕ → ℕ → List (List (List ℕ)) → Result (List (List Value)) RowFault
rows_from heading room row [] = Ok []
rows_from heading room row (fields ∷ rest) = with_first (row_of heading room row fields) (rows_from heading room (row + 1) rest)

-- the first record is the header
abbrev pub rows_after : Heading → ℕ → List (List (List ℕ)) → Result (List (List Value)) RowFault
rows_after heading room [] = Err Header
rows_after heading room (first ∷ rest) = if pointwise bytes_eq heading.names first then rows_from heading room 1 rest else Err Header

-- the rows of a file, of at most so many cells, or its first fault
abbrev pub rows_of : Heading → ℕ → List ℕ → Result (List (List Value)) RowFault
rows_of heading room bytes = rows_after heading room (records default_config (strip_bom bytes))

-- an answer is exactly what is wanted, or tells that memory was wanting
abbrev pub Answers : {X : Type 0} → Result X RowFault → Result X LoadFault → Type 0
Answers want (Ok x) = want ≡ Ok x
Answers want (Err fault.Header) = want ≡ Err Header
Answers want (Err (fault.Width row)) = want ≡ Err (Width row)
Answers want (Err (fault.Number row column)) = want ≡ Err (Number row column)
Answers want (Err (fault.NotText row column)) = want ≡ Err (NotText row column)
Answers want (Err fault.TooManyCells) = want ≡ Err TooManyCells
Answers want (Err fault.Memory) = ⊤

-- a segment has the schema and exactly the file's rows, and a fault is the file's first
abbrev pub AnswersLoad : Heading → ℕ → List ℕ → Result Version LoadFault → Type 0
AnswersLoad heading room bytes (Ok segment) = (segment.heading ≡ heading) × (rows_of heading room bytes ≡ Ok segment.rows)
AnswersLoad heading room bytes (Err fault.Header) = rows_of heading room bytes ≡ Err Header
AnswersLoad heading room bytes (Err (fault.Width row)) = rows_of heading room bytes ≡ Err (Width row)
AnswersLoad heading room bytes (Err (fault.Number row column)) = rows_of heading room bytes ≡ Err (Number row column)
AnswersLoad heading room bytes (Err (fault.NotText row column)) = rows_of heading room bytes ≡ Err (NotText row column)
AnswersLoad heading room bytes (Err fault.TooManyCells) = rows_of heading room bytes ≡ Err TooManyCells
AnswersLoad heading room bytes (Err fault.Memory) = ⊤
