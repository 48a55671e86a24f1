-- What contracts see of a flight that its lane brings.
use Rattle.std.specs.Prelude.{ℕ, Bool, List}
use Rattle.dq_extract.specs.Loads.{LoadedFiles}
use Rattle.dq_journal.specs.declared.entry.Entry.{Entry}
use Rattle.dq_bring.specs.Phases.{is_pending, is_untold}
use Rattle.dq_bring.specs.declared.phase.Phase.{Phase}

pub record BringingOf : Type 0 where
  pub loaded : LoadedFiles
  pub lane : ℕ
  pub flight : ℕ
  -- the journal of its last event
  pub seen : List Entry
  -- there is work before its next turn
  pub pending : Bool
  -- a dial failed, and the desk doesn't know it yet
  pub untold : Bool

abbrev pub bringing_view : {L : Type 0} → LoadedFiles → ℕ → ℕ → List Entry → Phase L → BringingOf
bringing_view l lane flight seen p = record { loaded = l; lane = lane; flight = flight; seen = seen; pending = is_pending p; untold = is_untold p }
