-- Which flight a lane brings next.
use Rattle.std.specs.Prelude.{◌≡◌, ℕ, true, false, List, [], ◌∷◌, length}
use Rattle.dq_base.specs.Scripts.{is_lane}
use Rattle.dq_bring.specs.Views.{BringingOf}
use Rattle.dq_extract.specs.Loads.{LoadedFiles}
use Rattle.dq_journal.specs.declared.entry.Entry.{Entry}
use Rattle.dq_machine.specs.Machine.{after}
use Rattle.dq_machine.specs.State.{New, is_first, work_of}
use Rattle.dq_desk.specs.Admissions.{StartedOf}
use Rattle.dq_batch.specs.declared.open.Current.{Current}
use Rattle.dq_batch.specs.declared.open.Current.TheVariants as current

-- the first of these, if there is one, is the first own flight of the lane, and has no link
pub record CanBeginWith (l : LoadedFiles) (lane : ℕ) (journal : List Entry) (t : StartedOf) : Type 0 where
  pub within : is_lane (length l.script.lanes) lane ≡ true
  pub first : is_first (work_of (after l journal) lane).own t.flight ≡ true
  pub begins : (work_of (after l journal) lane).phase ≡ New 0

abbrev pub CanBegin : LoadedFiles → ℕ → List Entry → List StartedOf → Type 0
CanBegin l lane journal [] = Unit {0}
CanBegin l lane journal (t ∷ left) = CanBeginWith l lane journal t

abbrev pub beginning : LoadedFiles → ℕ → List Entry → ℕ → BringingOf
beginning l lane journal flight = record { loaded = l; lane = lane; flight = flight; seen = journal; pending = false; untold = false }

abbrev pub IsNext : {L : Type 0} → LoadedFiles → ℕ → List Entry → List StartedOf → Current L → Type 0
IsNext l lane journal [] current.Free = Unit {0}
IsNext l lane journal [] (current.Group b) = ⊥
IsNext l lane journal [] (current.Own place b) = ⊥
IsNext l lane journal (t ∷ left) current.Free = ⊥
IsNext l lane journal (t ∷ left) (current.Group b) = b ≡ beginning l lane journal t.flight
IsNext l lane journal (t ∷ left) (current.Own place b) = ⊥
