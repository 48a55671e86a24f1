-- What an extract holds.
use Rattle.std.specs.Prelude.{◌≡◌, ℕ, ◌*◌, ◌≤◌, Bool, true, false, ◌&&◌, List, [], ◌∷◌, length}
use Rattle.std.specs.List.{list_all}
use Rattle.dq_base.specs.Headings.{Heading}
use Rattle.dq_base.specs.Limits.{cell_room}
use Rattle.dq_base.specs.Validity.{fits_sort}
use Rattle.dq_base.specs.declared.schema.Sort.{Sort}
use Rattle.dq_base.specs.declared.schema.Sort.TheVariants.{Whole, Word}
use Rattle.dq_base.specs.declared.value.Value.{Value}

-- a schema, and rows
pub record Version : Type 0 where
  pub heading : Heading
  pub rows : List (List Value)

-- null, or a value of the column's sort
abbrev pub value_fits : Sort → Value → Bool
value_fits Whole v = fits_sort true v
value_fits Word v = fits_sort false v

-- one such value for each column
abbrev pub row_fits : List Sort → List Value → Bool
row_fits [] [] = true
row_fits [] (v ∷ vs) = false
row_fits (s ∷ sorts) [] = false
row_fits (s ∷ sorts) (v ∷ vs) = value_fits s v && row_fits sorts vs

abbrev pub cells_of : Version → ℕ
cells_of v = length v.rows * length v.heading.names

-- rows that fit the schema, and are few enough
pub record IsVersion (v : Version) : Type 0 where
  pub paired : length v.heading.names ≡ length v.heading.sorts
  pub fit : list_all (row_fits v.heading.sorts) v.rows ≡ true
  pub few_rows : length v.rows ≤ cell_room
  pub few_cells : cells_of v ≤ cell_room
