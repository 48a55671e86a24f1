-- What a Publish entry does.
use Rattle.std.specs.Prelude.{ℕ, ◌+◌, Bool, true, false, not, nat_eq, List, [], ◌∷◌, length, filter, Option, Some, None, if◌then◌else◌}
use Rattle.dq_base.specs.Scripts.{step_of}
use Rattle.dq_base.specs.declared.script.Step.{Step}
use Rattle.dq_base.specs.declared.script.Step.TheVariants as step
use Rattle.dq_extract.specs.Loads.{LoadedFiles, segment_of}
use Rattle.dq_journal.specs.Standing.{Rows, published, version_rows}
use Rattle.dq_machine.specs.State.{Publication, Shelved, Shelves}

-- the source's rows
abbrev pub rows_in : List Publication → ℕ → Rows
rows_in [] source = []
rows_in (v ∷ versions) source = if nat_eq v.source source then v.rows else rows_in versions source

-- the source's stamp: how many publications of any source there were up to and with its latest, or 0
abbrev pub stamp_in : List Publication → ℕ → ℕ
stamp_in [] source = 0
stamp_in (v ∷ versions) source = if nat_eq v.source source then length versions + 1 else stamp_in versions source

-- the rows that the publication of that stamp left; before any there are none
abbrev pub rows_at : List Publication → ℕ → Rows
rows_at [] stamp = []
rows_at (v ∷ versions) stamp = if nat_eq stamp (length versions + 1) then v.rows else rows_at versions stamp

-- a step's rows, in place of the standing ones or behind them
abbrev pub versions_after : List Publication → Rows → Option Step → List Publication
versions_after versions new None = versions
versions_after versions new (Some (step.Batch zones)) = versions
versions_after versions new (Some (step.Publish source how file)) = record { source = source; rows = published how (rows_in versions source) new } ∷ versions

abbrev pub versions_published : LoadedFiles → List Publication → ℕ → ℕ → List Publication
versions_published l versions lane number = versions_after versions (version_rows (segment_of l lane number)) (step_of l.script.lanes lane number)

-- the entries of other sources
abbrev pub without_source : ℕ → List Shelved → List Shelved
without_source source shelf = filter (λ e. not (nat_eq e.key.source source)) shelf

abbrev pub shelves_after : Shelves → Option Step → Shelves
shelves_after shelves None = shelves
shelves_after shelves (Some (step.Batch zones)) = shelves
shelves_after shelves (Some (step.Publish source how file)) =
    record { clever = without_source source shelves.clever; literal = without_source source shelves.literal }

abbrev pub is_publish : Option Step → Bool
is_publish None = false
is_publish (Some (step.Publish source how file)) = true
is_publish (Some (step.Batch zones)) = false
