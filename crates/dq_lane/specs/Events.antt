-- The events of a lane that has no batch under way.
use Rattle.std.specs.Prelude.{◌≡◌, ℕ, ◌<◌, Bool, true, false, ◌&&◌, List, [], ◌∷◌, ◌++◌, length, Option, Some, None, is_none}
use Rattle.dq_base.specs.Scripts.{is_lane, step_of}
use Rattle.dq_batch.specs.Turns.{IsAdmission}
use Rattle.dq_batch.specs.Views.{BatchOf}
use Rattle.dq_extract.specs.Loads.{LoadedFiles}
use Rattle.dq_journal.specs.declared.entry.Entry.{Entry}
use Rattle.dq_journal.specs.declared.entry.Entry.TheVariants.{Publish, Admit, End}
use Rattle.dq_machine.specs.Admitting.{is_batch}
use Rattle.dq_machine.specs.Publishing.{is_publish}
use Rattle.dq_machine.specs.State.{State, is_free, work_of}
use Rattle.dq_lane.specs.declared.event.Event.{Event}
use Rattle.dq_lane.specs.declared.event.Event.TheVariants as event

-- the lane is one of the script, nothing of it is open, and its last step is below this one
pub record CanBegin (l : LoadedFiles) (lane number : ℕ) (s : State) : Type 0 where
  pub known : is_lane (length s.works) lane ≡ true
  pub free : is_free (work_of s lane) ≡ true
  pub above : (work_of s lane).last < number

-- the step was published as the journal's last entry
pub record HasPublished (l : LoadedFiles) (lane number : ℕ) (old new : List Entry) (place : ℕ) : Type 0 where
  pub kind : is_publish (step_of l.script.lanes lane number) ≡ true
  pub journal : new ≡ old ++ Publish lane number ∷ []
  pub last : place ≡ length new

-- the batch was admitted as the journal's last entry
pub record HasAdmitted (l : LoadedFiles) (lane number : ℕ) (old new : List Entry) (b : BatchOf) : Type 0 where
  pub kind : is_batch (step_of l.script.lanes lane number) ≡ true
  pub admission : IsAdmission l lane number old new b

-- the event of the step of that number
abbrev pub IsEvent : {L : Type 0} → LoadedFiles → ℕ → ℕ → List Entry → List Entry → Event L → Type 0
IsEvent l lane number old new event.Refused = (is_none (step_of l.script.lanes lane number) ≡ false) × (new ≡ old)
IsEvent l lane number old new (event.Published place) = HasPublished l lane number old new place
IsEvent l lane number old new (event.Admitted b) = HasAdmitted l lane number old new b
IsEvent l lane number old new event.Ended = (step_of l.script.lanes lane number ≡ None) × (new ≡ old ++ End lane ∷ [])
