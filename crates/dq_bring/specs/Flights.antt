-- A flight that its lane brings.
use Rattle.std.specs.Prelude.{◌≡◌, ℕ, true, List, length, Option, Some, None}
use Rattle.dq_base.specs.Scripts.{is_lane}
use Rattle.dq_base.specs.declared.query.Query.{Query}
use Rattle.dq_extract.specs.Loads.{LoadedFiles}
use Rattle.dq_journal.specs.declared.entry.Entry.{Entry}
use Rattle.dq_machine.specs.Machine.{after, legal}
use Rattle.dq_machine.specs.State.{Flown, State, flight_at, is_first, work_of}
use Rattle.dq_trial.specs.Links.{LinkTells}
use Rattle.dq_bring.specs.Phases.{IsPhase, Standing}
use Rattle.dq_bring.specs.declared.phase.Phase.{Phase}

-- the flight is there, with that key and stamp
abbrev pub KeyAt : Option Flown → Query → ℕ → Type 0
KeyAt None key stamp = ⊥
KeyAt (Some f) key stamp = (f.key ≡ key) × (f.stamp ≡ stamp)

abbrev pub standing_at : LoadedFiles → State → ℕ → Query → ℕ → ℕ → Standing
standing_at l s lane key stamp losses =
    record { loaded = l; versions = s.versions; key = key; stamp = stamp; course = (work_of s lane).phase; losses = losses }

-- the flight is the first of those that the lane has to bring, and as far as the machine has it behind this journal
pub record IsBringing {L : Type 0} (tells : LinkTells L) (l : LoadedFiles) (lane flight losses : ℕ) (journal : List Entry) (p : Phase L) : Type 0 where
  pub legal : legal l journal ≡ true
  pub there : is_lane (length l.script.lanes) lane ≡ true
  pub first : is_first (work_of (after l journal) lane).own flight ≡ true
  pub key : Query
  pub stamp : ℕ
  pub asked : KeyAt (flight_at (after l journal) flight) key stamp
  pub phase : IsPhase tells (standing_at l (after l journal) lane key stamp losses) p
