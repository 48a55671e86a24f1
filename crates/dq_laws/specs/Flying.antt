-- The flights that lanes bring, as they stand among all flights.
use Rattle.std.specs.Prelude.{◌≡◌, ℕ, ◌<◌, true, Option, Some, None, All}
use Rattle.dq_machine.specs.Admitting.{runs}
use Rattle.dq_machine.specs.State.{Flown, State, flight_at, work_of}

-- the flight is there, is this lane's, and runs
abbrev pub RunsFor : ℕ → Option Flown → Type 0
RunsFor lane None = ⊥
RunsFor lane (Some f) = (f.lane ≡ lane) × (runs f.course ≡ true)

-- each flight that a lane still has to bring is
pub record AreRunning (s : State) : Type 0 where
  pub each : (lane : ℕ) → 0 < lane → All (λ n. RunsFor lane (flight_at s n)) (work_of s lane).own

-- the flight is as it was, but for the number of those that wait for it
pub record StaysOf (old new : Flown) : Type 0 where
  pub number : new.number ≡ old.number
  pub lane : new.lane ≡ old.lane
  pub stamp : new.stamp ≡ old.stamp
  pub key : new.key ≡ old.key
  pub course : new.course ≡ old.course

-- it was there, and is
abbrev pub StaysAt : Option Flown → Option Flown → Type 0
StaysAt None o = ⊥
StaysAt (Some f) None = ⊥
StaysAt (Some f) (Some g) = StaysOf f g

-- so are all that the lane had to bring
abbrev pub OwnStay : State → State → ℕ → Type 0
OwnStay old new lane = All (λ n. StaysAt (flight_at old n) (flight_at new n)) (work_of old lane).own
