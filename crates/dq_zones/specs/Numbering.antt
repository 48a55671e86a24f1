-- The numbers of a batch's valid zones.
use Rattle.std.specs.Prelude.{ℕ, ◌+◌, List, map}
use Rattle.dq_base.specs.Headings.{Heading}
use Rattle.dq_base.specs.declared.query.Query.{Query}
use Rattle.dq_machine.specs.Owning.{valid_places}

-- where the first of these zones stands at this place; a number is one more than the place
abbrev pub numbers_from : List Heading → ℕ → List Query → List ℕ
numbers_from schemas place zones = map (λ k. k + 1) (valid_places schemas place zones)

abbrev pub zone_numbers : List Heading → List Query → List ℕ
zone_numbers schemas zones = numbers_from schemas 0 zones
