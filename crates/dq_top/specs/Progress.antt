-- How far the loading of a script's files has come.
use Rattle.std.specs.Prelude.{ℕ, ◌+◌, ◌-◌, ◌≤◌, List, [], ◌∷◌, ◌++◌, sum_by, All, Result, Ok, Err, Some}
use Rattle.dq_base.specs.Headings.{Heading}
use Rattle.dq_base.specs.Causes.{RoseBy}
use Rattle.dq_base.specs.Limits.{all_room, cell_room}
use Rattle.dq_base.specs.Versions.{Version, IsVersion, cells_of}
use Rattle.dq_outside.specs.Reads.{Files}
use Rattle.dq_extract.specs.Loads.{AreOf}
use Rattle.dq_top.specs.Loading.{Load, Loads, Publication, IsAmong, bytes_in, files_read, then_load, version_in}
use Rattle.dq_top.specs.Outcomes.{AnswersLoad, TakenCause}
use Rattle.dq_top.specs.declared.fault.Fault.{Fault}
use Rattle.dq_top.specs.declared.progress.Progress.{Progress}

-- one more version, of a file of so many bytes
abbrev pub with_version : Progress → ℕ → Version → Progress
with_version p bytes v = record { left = p.left - bytes; cells = p.cells - cells_of v; segments = p.segments ++ v ∷ [] }

-- behind one more file
abbrev pub behind_one : Files → Progress → Publication → Load Progress
behind_one files p x = then_load (version_in x p.left p.cells (files x.file)) (λ v. Loads (with_version p (bytes_in (files x.file)) v))

-- behind these files, or the first fault
abbrev pub behind : Files → Progress → List Publication → Load Progress
behind files p [] = Loads p
behind files p (x ∷ xs) = then_load (behind_one files p x) (λ q. behind files q xs)

-- the answer of loading these files, where they are told
abbrev pub AnswersProgress : Files → Progress → List Publication → Result Progress Fault → Type 0
AnswersProgress files p xs result = AnswersLoad (behind files p xs) (λ n. IsAmong n (files_read files p.left p.cells xs)) result

-- so much is left, of bytes and of cells
pub record IsWithin (p : Progress) : Type 0 where
  pub bytes : p.left ≤ all_room
  pub cells : p.cells ≤ cell_room

-- the folder took, from where it stood at first, what isn't left, or more than a limit on bytes that is told
abbrev pub TakenBy : ℕ → ℕ → Result Progress Fault → Type 0
TakenBy start now (Ok next) = RoseBy (all_room - next.left) start now
TakenBy start now (Err f) = TakenCause start now (Some f)

-- a segment for each of the sources so far, within the room of cells
pub record IsProgress (schemas : List Heading) (sources : List ℕ) (p : Progress) : Type 0 where
  pub fit : AreOf schemas sources p.segments
  pub cells : sum_by cells_of p.segments + p.cells ≤ cell_room
  pub versions : All IsVersion p.segments
