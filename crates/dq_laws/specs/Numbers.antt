-- The numbers of flights.
use Rattle.std.specs.Prelude.{◌≡◌, ℕ, ◌*◌, ◌<◌, ◌≤◌, Bool, true, ◌&&◌, nat_lt, List, [], ◌∷◌, All}
use Rattle.std.specs.List.{list_all}
use Rattle.dq_base.specs.Limits.{most_lanes, most_steps, most_zones}
use Rattle.dq_machine.specs.State.{Flown, Flights}

-- one for each zone of each step of each lane
abbrev pub most_flights : ℕ
most_flights = most_lanes * most_steps * most_zones

-- each number is below those behind it
abbrev pub ascends : List Flown → Bool
ascends [] = true
ascends (f ∷ flown) = list_all (λ g. nat_lt f.number g.number) flown && ascends flown

-- the numbers go from 1 up to as many as were started, and no two flights have the same
pub record AreNumbered (flights : Flights) : Type 0 where
  pub above : All (λ f. 0 < f.number) flights.flown
  pub within : All (λ f. f.number ≤ flights.started) flights.flown
  pub order : ascends flights.flown ≡ true
