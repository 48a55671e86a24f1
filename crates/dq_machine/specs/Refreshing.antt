-- How a publish step refreshes what stands.
use Rattle.std.specs.Prelude.{◌≡◌, ℕ, ◌+◌, ◌≤◌, List, [], length, slice_get, Option, Some, None}
use Rattle.dq_base.specs.Headings.{Heading}
use Rattle.dq_base.specs.Limits.{cell_room}
use Rattle.dq_base.specs.Versions.{Version, cells_of}
use Rattle.dq_base.specs.declared.script.How.{How}
use Rattle.dq_base.specs.declared.script.Step.{Step}
use Rattle.dq_base.specs.declared.script.Step.TheVariants as step
use Rattle.dq_journal.specs.Standing.{published}
use Rattle.dq_machine.specs.Publishing.{rows_in}
use Rattle.dq_machine.specs.State.{Publication}

-- what stands of a source with this schema, and what does before its first publication
abbrev pub standing : List Publication → ℕ → Heading → Version
standing versions source heading = record { heading = heading; rows = rows_in versions source }

abbrev pub no_stand : Heading → Version
no_stand heading = record { heading = heading; rows = [] }

-- one for each schema
pub record AreStanding (schemas : List Heading) (versions : List Publication) (stands : List Version) : Type 0 where
  pub count : length stands ≡ length schemas
  pub each : (source : ℕ) (heading : Heading) → slice_get schemas source ≡ Some heading → slice_get stands source ≡ Some (standing versions source heading)

-- the segment has the heading of what stands, and both together are within the room for cells
pub record Joins (old : Version) (new : Version) : Type 0 where
  pub heading : new.heading ≡ old.heading
  pub cells : cells_of old + cells_of new ≤ cell_room

-- something stands of the source, and the segment joins it
abbrev pub JoinsAt : Option Version → Option Version → Type 0
JoinsAt None found = ⊥
JoinsAt (Some old) None = ⊥
JoinsAt (Some old) (Some new) = Joins old new

-- the step publishes a segment that joins what stands of its source
abbrev pub CanRefresh : List Version → Option Step → Option Version → Type 0
CanRefresh stands None found = ⊥
CanRefresh stands (Some (step.Batch zones)) found = ⊥
CanRefresh stands (Some (step.Publish source how file)) found = JoinsAt (slice_get stands source) found

-- the segment's rows are in place of those that stood, or behind them
abbrev pub RefreshedAt : How → Option Version → Option Version → Version → Type 0
RefreshedAt how None found fresh = ⊥
RefreshedAt how (Some old) None fresh = ⊥
RefreshedAt how (Some old) (Some new) fresh = (fresh.heading ≡ old.heading) × (fresh.rows ≡ published how old.rows new.rows)

-- this is the step's source, and its extract after the step
abbrev pub IsRefresh : List Version → Option Step → Option Version → ℕ → Version → Type 0
IsRefresh stands None found source fresh = ⊥
IsRefresh stands (Some (step.Batch zones)) found source fresh = ⊥
IsRefresh stands (Some (step.Publish s how file)) found source fresh = (source ≡ s) × RefreshedAt how (slice_get stands s) found fresh
