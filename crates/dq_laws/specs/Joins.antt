-- That what is waited for is there.
use Rattle.std.specs.Prelude.{◌≡◌, ℕ, false, is_none, All}
use Rattle.dq_machine.specs.State.{State, flight_at, work_of}

-- the flight of each join of each lane is there
pub record HasFlights (s : State) : Type 0 where
  pub each : (lane : ℕ) → All (λ j. is_none (flight_at s j.flight) ≡ false) (work_of s lane).joins
