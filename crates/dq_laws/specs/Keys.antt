-- What is asked of the back end, waited for and kept.
use Rattle.std.specs.Prelude.{ℕ, All}
use Rattle.dq_base.specs.declared.query.Query.{Query}
use Rattle.dq_machine.specs.State.{State, work_of}

-- such are the key of each flight, the query of each join of each lane, and the key of each answer on both shelves
pub record KeysAre (Such : Query → Type 0) (s : State) : Type 0 where
  pub flights : All (λ f. Such f.key) s.flights.flown
  pub joins : (lane : ℕ) → All (λ j. Such j.query) (work_of s lane).joins
  pub clever : All (λ e. Such e.key) s.shelves.clever
  pub literal : All (λ e. Such e.key) s.shelves.literal
