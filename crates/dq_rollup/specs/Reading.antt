-- What the cells of a held row say.
use Rattle.std.specs.Prelude.{ℕ, ℤ, pos, negsuc, ◌+ℤ◌, ◌*ℤ◌, List, slice_index_or, Option, Some, None, if◌then◌else◌}
use Rattle.dq_base.specs.Answers.{is_present, lesser, greater, number_of}
use Rattle.dq_base.specs.Ratios.{count_of}
use Rattle.dq_base.specs.declared.value.Value.{Value}
use Rattle.dq_base.specs.declared.value.Value.TheVariants as value
use Rattle.dq_base.specs.declared.cell.Cell.{Cell}
use Rattle.dq_base.specs.declared.cell.Cell.TheVariants as cell
use Rattle.dq_rollup.specs.declared.source.Part.{Part}
use Rattle.dq_rollup.specs.declared.source.Part.TheVariants.{Shown, Keyed}

-- a row's cell at a place, from 0
abbrev pub cell_in : List Cell → ℕ → Cell
cell_in row place = slice_index_or row place cell.Null

-- the value of which a cell was made
abbrev pub value_of : Cell → Value
value_of cell.Null = value.Null
value_of (cell.Whole n) = value.Int n
value_of (cell.Word t) = value.Word t
value_of (cell.Ratio f) = value.Null

abbrev pub natural : ℤ → ℕ
natural (pos n) = n
natural (negsuc n) = 0

-- how many a cell counts; a ratio counts what was added
abbrev pub number_in : Cell → ℕ
number_in cell.Null = 0
number_in (cell.Whole n) = natural n
number_in (cell.Word t) = 0
number_in (cell.Ratio f) = count_of f

-- the sum that a cell has, if there is one
abbrev pub sum_in : Cell → Option ℤ
sum_in cell.Null = None
sum_in (cell.Whole n) = Some n
sum_in (cell.Word t) = None
sum_in (cell.Ratio f) = Some f.sum

-- the sum of so many like values, if they aren't null
abbrev pub multiple : Value → ℕ → Option ℤ
multiple v n = if is_present v then Some (number_of v *ℤ pos n) else None

-- how many values a row's part counts
abbrev pub counted : Part → List Cell → ℕ
counted (Shown place) row = number_in (cell_in row place)
counted (Keyed key rows) row = if is_present (value_of (cell_in row key)) then number_in (cell_in row rows) else 0

-- their sum, if there are any
abbrev pub summed : Part → List Cell → Option ℤ
summed (Shown place) row = sum_in (cell_in row place)
summed (Keyed key rows) row = multiple (value_of (cell_in row key)) (number_in (cell_in row rows))

abbrev pub plus_sum : Option ℤ → Option ℤ → Option ℤ
plus_sum None b = b
plus_sum (Some a) None = Some a
plus_sum (Some a) (Some b) = Some (a +ℤ b)

-- the value, if it isn't null
abbrev pub some_value : Value → Option Value
some_value value.Null = None
some_value (value.Int n) = Some (value.Int n)
some_value (value.Word t) = Some (value.Word t)

-- the lesser of the values that are there
abbrev pub lower : Option Value → Option Value → Option Value
lower None b = b
lower (Some a) None = Some a
lower (Some a) (Some b) = Some (lesser a b)

-- the greater of the values that are there
abbrev pub higher : Option Value → Option Value → Option Value
higher None b = b
higher (Some a) None = Some a
higher (Some a) (Some b) = Some (greater a b)
