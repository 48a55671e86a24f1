-- What a turn of a lane does.
use Rattle.std.specs.Prelude.{◌≡◌, ℕ, ◌+◌, ◌<◌, ◌⊎◌, true, false, List, [], ◌∷◌, ◌++◌, length, Some, None}
use Rattle.dq_journal.specs.Journals.{lane_of}
use Rattle.dq_journal.specs.Steps.{is_end, step_in}
use Rattle.dq_journal.specs.declared.entry.Entry.{Entry}
use Rattle.dq_journal.specs.declared.entry.Entry.TheVariants.{End}
use Rattle.dq_machine.specs.Machine.{after}
use Rattle.dq_machine.specs.State.{is_free, work_of}
use Rattle.dq_machine.specs.Taking.{is_first_join, waits}
use Rattle.dq_batch.specs.declared.open.Turned.{Turned}
use Rattle.dq_batch.specs.declared.open.Turned.TheVariants as turned
use Rattle.dq_lane.specs.View.{LaneOf, steps_of}
use Rattle.dq_lane.specs.declared.lane.Stepped.{Stepped}
use Rattle.dq_lane.specs.declared.lane.Stepped.TheVariants.{Moved, Waits, Done}

-- the next step is refused, without an entry
pub record Refuses (v w : LaneOf) (old new : List Entry) : Type 0 where
  pub journal : new ≡ old
  pub free : is_free (work_of (after v.loaded old) v.number) ≡ true
  pub below : length v.places < length (steps_of v.loaded v.number)
  pub places : w.places ≡ v.places ++ None ∷ []
  pub going : w.done ≡ false

-- the next step has its entry
pub record Begins (v w : LaneOf) (old new : List Entry) : Type 0 where
  pub entry : Entry
  pub names : step_in entry ≡ (length v.places + 1) ∷ []
  pub of_lane : lane_of entry ≡ v.number
  pub journal : new ≡ old ++ entry ∷ []
  pub below : length v.places < length (steps_of v.loaded v.number)
  pub places : w.places ≡ v.places ++ Some (length new) ∷ []
  pub going : w.done ≡ false

-- the batch under way has its next entry
pub record GoesAhead (v w : LaneOf) (old new : List Entry) : Type 0 where
  pub entry : Entry
  pub names : step_in entry ≡ []
  pub goes : is_end entry ≡ false
  pub of_lane : lane_of entry ≡ v.number
  pub journal : new ≡ old ++ entry ∷ []
  pub places : w.places ≡ v.places
  pub going : w.done ≡ false

-- the lane ends, behind its last step
pub record Ends (v w : LaneOf) (old new : List Entry) : Type 0 where
  pub journal : new ≡ old ++ End v.number ∷ []
  pub over : length v.places ≡ length (steps_of v.loaded v.number)
  pub places : w.places ≡ v.places
  pub done : w.done ≡ true

abbrev pub Moves : LaneOf → LaneOf → List Entry → List Entry → Type 0
Moves v w old new = Refuses v w old new ⊎ Begins v w old new ⊎ GoesAhead v w old new ⊎ Ends v w old new

-- it moved; or it waits for this flight, as the machine has it, or was done, and nothing changed but what it has seen
abbrev pub IsTurn : Stepped → LaneOf → LaneOf → List Entry → List Entry → Type 0
IsTurn Moved v w old new = (v.done ≡ false) × Moves v w old new
IsTurn (Waits flight) v w old new =
    (v.done ≡ false) × (waits (after v.loaded old) (work_of (after v.loaded old) v.number) ≡ true)
    × (is_first_join (work_of (after v.loaded old) v.number).joins flight ≡ true) × (w ≡ record v { seen = new }) × (new ≡ old)
IsTurn Done v w old new = (v.done ≡ true) × (w ≡ record v { seen = new }) × (new ≡ old)

-- what a turn of the batch under way is for its lane
abbrev pub IsSteppedBy : Turned → Stepped → Type 0
IsSteppedBy turned.Moved s = s ≡ Moved
IsSteppedBy (turned.Waits flight) s = s ≡ Waits flight
