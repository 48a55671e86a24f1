-- What the machine holds, and what one entry makes of it.
use Rattle.std.specs.Prelude.{◌≡◌, Bool, true, false, List, Option, Some, None}
use Rattle.dq_base.specs.Versions.{Version}
use Rattle.dq_extract.specs.Loads.{LoadedFiles}
use Rattle.dq_journal.specs.Journals.{lane_of}
use Rattle.dq_journal.specs.declared.entry.Entry.{Entry}
use Rattle.dq_machine.specs.Machine.{IsReached, allowed, may, next, next_by}
use Rattle.dq_machine.specs.Refreshing.{AreStanding}
use Rattle.dq_machine.specs.State.{State, work_of}

-- what was loaded, and the state
pub record MachineOf : Type 0 where
  pub loaded : LoadedFiles
  pub state : State

-- the state, and what stands of each extract
pub record PartsOf : Type 0 where
  pub state : State
  pub stands : List Version

-- the machine comes to that state, and that is what stands
pub record AreParts (l : LoadedFiles) (p : PartsOf) : Type 0 where
  pub reached : IsReached l p.state
  pub standing : AreStanding l.script.schemas p.state.versions p.stands

-- the entry may come of its lane's work, and this is what it leaves
pub record Takes (l : LoadedFiles) (old new : PartsOf) (e : Entry) : Type 0 where
  pub may : may l old.state (work_of old.state (lane_of e)) e ≡ true
  pub next : new.state ≡ next_by l old.state (work_of old.state (lane_of e)) e
  pub standing : AreStanding l.script.schemas new.state.versions new.stands

-- whether it may come
abbrev pub TakesIf : Bool → LoadedFiles → PartsOf → PartsOf → Entry → Type 0
TakesIf true l old new e = Takes l old new e
TakesIf false l old new e = may l old.state (work_of old.state (lane_of e)) e ≡ false

-- whether the entry may come in the machine's state, and the machine after it
abbrev pub IsTaken : MachineOf → Entry → Option MachineOf → Type 0
IsTaken m e None = allowed m.loaded m.state e ≡ false
IsTaken m e (Some n) = (allowed m.loaded m.state e ≡ true) × (n ≡ record { loaded = m.loaded; state = next m.loaded m.state e })
