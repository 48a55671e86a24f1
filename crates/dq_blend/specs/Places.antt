-- Where a row stands.
use Rattle.std.specs.Prelude.{◌≡◌, ℕ, zero, suc, Bool, cond, List, [], ◌∷◌, take, Option, Some, None, option_map}
use Rattle.std.specs.BTreeMap.{is_at}
use Rattle.std.specs.Map.{lookup}
use Rattle.std.specs.Ordering.{is_eq}
use Rattle.dq_base.specs.declared.cell.Cell.{Cell}
use Rattle.dq_blend.specs.Exact.{cells_cmp}

-- the place of the first item of which the test holds, from 0
abbrev pub first_place : {X : Type 0} → (X → Bool) → List X → Option ℕ
first_place test [] = None
first_place test (x ∷ xs) = cond (test x) (Some zero) (option_map suc (first_place test xs))

-- the first so many cells of a row are these
abbrev pub begins_with : ℕ → List Cell → List Cell → Bool
begins_with count key row = is_eq (cells_cmp key (take count row))

-- each key is entered with the place of the first row that begins with it
abbrev pub AreFirst : ℕ → List (List Cell) → List (List Cell × ℕ) → Type 0
AreFirst count rows entries = (key : List Cell) → lookup (is_at (cells_cmp key)) entries ≡ first_place (begins_with count key) rows
