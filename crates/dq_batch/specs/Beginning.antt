-- How far the queries of a batch are at its admission.
use Rattle.std.specs.Prelude.{ℕ, List, [], ◌∷◌, slice_index_or, slice_set, Option, Some, None}
use Rattle.dq_cache.specs.declared.entry.Found.{Found}
use Rattle.dq_journal.specs.declared.entry.Met.{Met}
use Rattle.dq_journal.specs.declared.entry.Met.TheVariants as meet
use Rattle.dq_zones.specs.declared.fetch.Fetch.{Fetch}
use Rattle.dq_zones.specs.declared.fetch.Fetch.TheVariants as fetch
use Rattle.std.specs.declared.sync.Arc.{Arc}
use Rattle.std.specs.declared.alloc.Global.{Global}
use Rattle.dq_base.specs.declared.cell.Cell.{Cell}
use Rattle.dq_base.specs.declared.query.Query.{Query}

-- a share of a key and its answer; a missing one is want of memory
abbrev pub shared : Option (Arc Query Global × Arc (List (List Cell)) Global) → Fetch
shared None = fetch.Memory
shared (Some both) = fetch.Brought both.0 both.1

-- what a cache handed out
abbrev pub handed : Option Found → Fetch
handed None = fetch.Memory
handed (Some found) = shared found.share

-- a query that met this, and was handed that out of a cache
abbrev pub begun : Met → Option Found → Fetch
begun (meet.Hit flight) held = handed held
begun (meet.Literal flight) held = handed held
begun (meet.Join flight) held = fetch.Waiting flight
begun (meet.Group flight) held = fetch.Flying flight

-- one for each query, in order
abbrev pub all_begun : List Met → List (Option Found) → List Fetch
all_begun [] held = []
all_begun (m ∷ met) [] = []
all_begun (m ∷ met) (h ∷ held) = begun m h ∷ all_begun met held

-- the one at a place is put there
abbrev pub begun_at : List Met → List (Option Found) → ℕ → List Fetch → List Fetch
begun_at met held place fetches = slice_set fetches place (begun (slice_index_or met place (meet.Hit 0)) (slice_index_or held place None))
