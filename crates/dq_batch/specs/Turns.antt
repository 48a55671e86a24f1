-- What an admission and a turn do, as contracts see it.
use Rattle.std.specs.Prelude.{◌≡◌, ℕ, true, false, List, [], ◌∷◌, ◌++◌, length, Option, Some, None}
use Rattle.dq_extract.specs.Loads.{LoadedFiles}
use Rattle.dq_journal.specs.declared.entry.Entry.{Entry}
use Rattle.dq_journal.specs.declared.entry.Entry.TheVariants.{Admit}
use Rattle.dq_machine.specs.Admitting.{admission_of}
use Rattle.dq_machine.specs.Machine.{after}
use Rattle.dq_machine.specs.State.{work_of}
use Rattle.dq_machine.specs.Taking.{is_first_join, waits}
use Rattle.dq_batch.specs.Courses.{Moves}
use Rattle.dq_batch.specs.Views.{BatchOf}
use Rattle.dq_batch.specs.declared.open.Turned.{Turned}
use Rattle.dq_batch.specs.declared.open.Turned.TheVariants as turned

-- the batch was admitted as the journal's last entry
pub record IsAdmission (l : LoadedFiles) (lane step : ℕ) (old new : List Entry) (b : BatchOf) : Type 0 where
  pub journal : new ≡ old ++ Admit lane step (admission_of l (after l old) lane step).met ∷ []
  pub loaded : b.loaded ≡ l
  pub lane_is : b.lane ≡ lane
  pub step_is : b.step ≡ step
  pub place : b.place ≡ length new
  pub seen : b.seen ≡ new
  pub pending : b.pending ≡ false
  pub untold : b.untold ≡ false

abbrev pub AdmitsAs : LoadedFiles → ℕ → ℕ → List Entry → List Entry → Option BatchOf → Type 0
AdmitsAs l lane step old new None = new ≡ old
AdmitsAs l lane step old new (Some b) = IsAdmission l lane step old new b

-- it had its next event
pub record HasGone (v w : BatchOf) (old new : List Entry) : Type 0 where
  pub moves : Moves v.lane v.untold old new
  pub loaded : w.loaded ≡ v.loaded
  pub lane : w.lane ≡ v.lane
  pub step : w.step ≡ v.step
  pub place : w.place ≡ v.place
  pub seen : w.seen ≡ new
  pub untold : w.untold ≡ false

-- it waits for this flight, as the machine has it, and nothing changed
pub record HasStood (v w : BatchOf) (old new : List Entry) (flight : ℕ) : Type 0 where
  pub journal : new ≡ old
  pub waits : waits (after v.loaded old) (work_of (after v.loaded old) v.lane) ≡ true
  pub first : is_first_join (work_of (after v.loaded old) v.lane).joins flight ≡ true
  pub is : w ≡ record v { seen = new }

abbrev pub IsTurned : BatchOf → BatchOf → List Entry → List Entry → Turned → Type 0
IsTurned v w old new turned.Moved = HasGone v w old new
IsTurned v w old new (turned.Waits flight) = HasStood v w old new flight
