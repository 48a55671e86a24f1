-- Items by their numbers.
use Rattle.std.specs.Prelude.{ℕ, ◌-◌, nat_eq, List, slice_get, Option, None, if◌then◌else◌}

-- the item of that number, from 1
abbrev pub numbered : {X : Type 0} → List X → ℕ → Option X
numbered items number = if nat_eq number 0 then None else slice_get items (number - 1)
