-- The stamps of what is under way, waited for and kept.
use Rattle.std.specs.Prelude.{ℕ, ◌≤◌, length, All}
use Rattle.dq_machine.specs.State.{State, work_of}

-- each is the number of a publication that was, or 0
pub record AreStamped (s : State) : Type 0 where
  pub flights : All (λ f. f.stamp ≤ length s.versions) s.flights.flown
  pub joins : (lane : ℕ) → All (λ j. j.stamp ≤ length s.versions) (work_of s lane).joins
  pub clever : All (λ e. e.stamp ≤ length s.versions) s.shelves.clever
  pub literal : All (λ e. e.stamp ≤ length s.versions) s.shelves.literal
