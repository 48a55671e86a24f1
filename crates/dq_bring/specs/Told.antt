-- What a turn makes of a flight.
use Rattle.std.specs.Prelude.{◌≡◌, ◌≢◌, ℕ, Bool, true, false, List, [], ◌∷◌, ◌++◌, drop, Option, Some, None}
use Rattle.std.specs.Arc.{arc_value}
use Rattle.dq_extract.specs.Loads.{LoadedFiles}
use Rattle.dq_fates.specs.Dials.{is_undialled}
use Rattle.dq_journal.specs.Journals.{lane_of}
use Rattle.dq_journal.specs.declared.entry.Entry.{Entry}
use Rattle.dq_laws.specs.Settled.{IsOver, brings}
use Rattle.dq_machine.specs.Machine.{after}
use Rattle.dq_machine.specs.Owning.{Answered, Failed, Wanting, fate}
use Rattle.dq_machine.specs.State.{New, Work, flight_at, work_of}
use Rattle.dq_desk.specs.Events.{IsAnswer}
use Rattle.dq_trial.specs.Links.{LinkTells}
use Rattle.dq_bring.specs.Flights.{IsBringing}
use Rattle.dq_bring.specs.Phases.{is_untold}
use Rattle.dq_bring.specs.declared.phase.Answer.{Answer}
use Rattle.dq_bring.specs.declared.phase.Phase.{Phase}
use Rattle.dq_bring.specs.declared.phase.Phase.TheVariants as phase
use Rattle.dq_bring.specs.declared.telling.Ending.{Ending}
use Rattle.dq_bring.specs.declared.telling.Ending.TheVariants as ending
use Rattle.dq_bring.specs.declared.telling.Told.{Told}
use Rattle.dq_bring.specs.declared.telling.Told.TheVariants as told

-- one more entry, which is the lane's and a step on the way of the flight; it is an undialled loss, or not
pub record Enters (lane flight : ℕ) (failed : Bool) (old new : List Entry) : Type 0 where
  pub entry : Entry
  pub is : new ≡ old ++ entry ∷ []
  pub of_lane : lane_of entry ≡ lane
  pub brings : brings flight entry ≡ true
  pub undialled : is_undialled lane entry ≡ failed

-- all of a lane's work but its own flights stays
pub record StaysBeside (old new : Work) : Type 0 where
  pub joins : new.joins ≡ old.joins
  pub last : new.last ≡ old.last
  pub ended : new.ended ≡ old.ended

-- the flight is still to be brought
pub record Goes {L : Type 0} (tells : LinkTells L) (l : LoadedFiles) (lane flight : ℕ) (undialled : Bool) (old new : List Entry) (losses : ℕ) (p : Phase L) : Type 0 where
  pub enters : Enters lane flight undialled old new
  pub bringing : IsBringing tells l lane flight losses new p
  pub untold : is_untold p ≡ false
  pub own : (work_of (after l new) lane).own ≡ (work_of (after l old) lane).own
  pub beside : StaysBeside (work_of (after l old) lane) (work_of (after l new) lane)
  pub flights : (after l new).flights ≡ (after l old).flights

-- what became of the flight fits its ending; one that landed did so with its answer
abbrev pub IsEnding : LoadedFiles → List Entry → List Entry → ℕ → Ending → Type 0
IsEnding l old new flight (ending.Landed table) =
    (fate new (Some flight) ≡ Answered) × IsAnswer (after l old).versions (flight_at (after l old) flight) (arc_value table)
IsEnding l old new flight ending.BackEnd = fate new (Some flight) ≡ Failed
IsEnding l old new flight ending.Memory = fate new (Some flight) ≡ Wanting

-- the flight ended, and left the lane's work
pub record Ends (l : LoadedFiles) (lane flight : ℕ) (undialled : Bool) (old new : List Entry) (e : Ending) : Type 0 where
  pub enters : Enters lane flight undialled old new
  pub own : (work_of (after l new) lane).own ≡ drop 1 (work_of (after l old) lane).own
  pub course : (work_of (after l new) lane).phase ≡ New 0
  pub beside : StaysBeside (work_of (after l old) lane) (work_of (after l new) lane)
  pub others : (number : ℕ) → number ≢ flight → flight_at (after l new) number ≡ flight_at (after l old) number
  pub started : (after l new).flights.started ≡ (after l old).flights.started
  pub over : IsOver (after l new) flight
  pub ending : IsEnding l old new flight e

-- what the event makes of a flight that was so far
abbrev pub IsTold : {L : Type 0} → LinkTells L → LoadedFiles → ℕ → ℕ → Phase L → List Entry → List Entry → Told L → Type 0
IsTold tells l lane flight p old new (told.On losses q) = Goes tells l lane flight (is_untold p) old new losses q
IsTold tells l lane flight p old new (told.Over e) = Ends l lane flight (is_untold p) old new e

-- once its link was given back it lands, unless memory was wanting
abbrev pub GivenTo : {L : Type 0} → Option Answer → Phase L → Type 0
GivenTo None phase.New = ⊥
GivenTo None (phase.Idle p) = ⊥
GivenTo None (phase.Dial number) = ⊥
GivenTo None (phase.Back p ran answered) = ⊥
GivenTo None (phase.Lost number what) = ⊥
GivenTo None phase.Undialled = ⊥
GivenTo None (phase.Landing a) = ⊥
GivenTo None phase.Falling = Unit {0}
GivenTo (Some answer) phase.New = ⊥
GivenTo (Some answer) (phase.Idle p) = ⊥
GivenTo (Some answer) (phase.Dial number) = ⊥
GivenTo (Some answer) (phase.Back p ran answered) = ⊥
GivenTo (Some answer) (phase.Lost number what) = ⊥
GivenTo (Some answer) phase.Undialled = ⊥
GivenTo (Some answer) (phase.Landing a) = a ≡ answer
GivenTo (Some answer) phase.Falling = ⊥
