-- What a turn makes of a batch under way.
use Rattle.std.specs.Prelude.{◌≡◌, ℕ, Bool, true, false, List, [], ◌∷◌, ◌++◌}
use Rattle.dq_extract.specs.Loads.{LoadedFiles}
use Rattle.dq_fates.specs.Dials.{is_undialled}
use Rattle.dq_journal.specs.Journals.{lane_of}
use Rattle.dq_journal.specs.Steps.{is_end, step_in}
use Rattle.dq_journal.specs.declared.entry.Entry.{Entry}
use Rattle.dq_machine.specs.Machine.{after}
use Rattle.dq_machine.specs.State.{work_of}
use Rattle.dq_machine.specs.Taking.{is_first_join, waits}
use Rattle.dq_batch.specs.Open.{IsBatch, IsSameBatch, untold_in}
use Rattle.dq_batch.specs.declared.open.Open.{Open}
use Rattle.dq_batch.specs.declared.open.Turned.{Turned}
use Rattle.dq_batch.specs.declared.open.Turned.TheVariants as turned

-- one more entry, which is the lane's, names no step and isn't its end; it tells of a dial that failed, or not
pub record Moves (lane : ℕ) (untold : Bool) (old new : List Entry) : Type 0 where
  pub entry : Entry
  pub is : new ≡ old ++ entry ∷ []
  pub of_lane : lane_of entry ≡ lane
  pub names : step_in entry ≡ []
  pub goes : is_end entry ≡ false
  pub undialled : is_undialled lane entry ≡ untold

module _ {L : Type 0} (l : LoadedFiles) where
  pub record HasMoved (o : Open L) (old new : List Entry) (p : Open L) : Type 0 where
    pub moves : Moves o.lane (untold_in o.current) old new
    pub batch : IsBatch l new p
    pub same : IsSameBatch o p
    pub told : untold_in p.current ≡ false

  -- the lane waits for this flight, and nothing changed
  pub record HasWaited (o : Open L) (old new : List Entry) (p : Open L) (flight : ℕ) : Type 0 where
    pub journal : new ≡ old
    pub is : p ≡ o
    pub batch : IsBatch l new p
    pub waits : waits (after l old) (work_of (after l old) o.lane) ≡ true
    pub first : is_first_join (work_of (after l old) o.lane).joins flight ≡ true

  abbrev pub HasTurned : Open L → List Entry → List Entry → Open L → Turned → Type 0
  HasTurned o old new p turned.Moved = HasMoved o old new p
  HasTurned o old new p (turned.Waits flight) = HasWaited o old new p flight
