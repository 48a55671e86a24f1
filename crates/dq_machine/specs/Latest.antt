-- The stamps of all sources.
use Rattle.std.specs.Prelude.{◌≡◌, ℕ, List, slice_index_or}
use Rattle.dq_machine.specs.Publishing.{stamp_in}
use Rattle.dq_machine.specs.State.{Publication}

-- for each source its stamp, and 0 for those that aren't there
pub record AreLatest (latest : List ℕ) (versions : List Publication) : Type 0 where
  pub each : (source : ℕ) → slice_index_or latest source 0 ≡ stamp_in versions source
