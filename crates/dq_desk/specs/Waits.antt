-- The joins of a lane.
use Rattle.std.specs.Prelude.{◌≡◌, List, [], ◌∷◌, Option, Some, None}
use Rattle.dq_machine.specs.State.{Joined}

-- the first of these, or none where there are none
abbrev pub IsFirst : List Joined → Option Joined → Type 0
IsFirst [] None = Unit {0}
IsFirst [] (Some j) = ⊥
IsFirst (j ∷ joins) None = ⊥
IsFirst (j ∷ joins) (Some first) = first ≡ j
