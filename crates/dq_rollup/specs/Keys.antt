-- A key made of another query's key, and the tests that the other key decides.
use Rattle.std.specs.Prelude.{◌≡◌, ℕ, ◌*◌, Bool, true, false, ◌&&◌, List, [], ◌∷◌, map, slice_get, Option, Some, None}
use Rattle.std.specs.List.{list_any}
use Rattle.dq_base.specs.Covering.{made_of}
use Rattle.dq_base.specs.Dims.{Dimension, banded, is_plain, plain, width_of}
use Rattle.dq_base.specs.Filters.{holds}
use Rattle.std.specs.Prelude.{nat_eq}
use Rattle.dq_base.specs.declared.value.Value.{Value}
use Rattle.dq_base.specs.declared.cell.Cell.{Cell}
use Rattle.dq_base.specs.declared.predicate.Predicate.{Predicate}
use Rattle.dq_rollup.specs.declared.key.Made.{Made}
use Rattle.dq_rollup.specs.Reading.{cell_in, value_of}

-- the dimension at that place is on the same column, and the two widths make this one's
pub record IsMade (ps : List Dimension) (d : Dimension) (m : Made) : Type 0 where
  pub from : Dimension
  pub there : slice_get ps m.place ≡ Some from
  pub made : made_of d from ≡ true
  pub width : width_of d ≡ width_of from * width_of m.dim

-- the value of the cell at the place, or the number of its band
abbrev pub made_value : List Cell → Made → Value
made_value row m = banded (width_of m.dim) (value_of (cell_in row m.place))

abbrev pub made_key : List Made → List Cell → List Value
made_key plan row = map (made_value row) plan

-- the place of a plain dimension on the column, if there is one
abbrev pub IsPlace : List Dimension → ℕ → Option ℕ → Type 0
IsPlace ps c None = list_any (λ d. nat_eq c d.column && is_plain d) ps ≡ false
IsPlace ps c (Some place) = slice_get ps place ≡ Some (plain c)

abbrev pub IsPlaced : List Dimension → Predicate → Option ℕ → Type 0
IsPlaced ps f place = IsPlace ps f.column place

-- whether the test holds of the value at the place; without a place it isn't asked
abbrev pub passes_one : Predicate → Option ℕ → List Cell → Bool
passes_one f None row = true
passes_one f (Some place) row = holds f.test (value_of (cell_in row place))

-- each test with its place
abbrev pub passes : List Predicate → List (Option ℕ) → List Cell → Bool
passes [] places row = true
passes (f ∷ fs) [] row = true
passes (f ∷ fs) (place ∷ places) row = passes_one f place row && passes fs places row

-- the place in a list of places, if the list and the place are there
abbrev pub spot_in : Option (Option ℕ) → Option ℕ
spot_in None = None
spot_in (Some place) = place
