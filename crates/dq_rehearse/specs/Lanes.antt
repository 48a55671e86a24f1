-- The lanes of a run, in order.
use Rattle.std.specs.Prelude.{◌≡◌, ℕ, ◌+◌, ◌<◌, true, List, length, map, slice_index_or, Option}
use Rattle.std.specs.List.{range_with_len}
use Rattle.dq_extract.specs.Loads.{LoadedFiles}
use Rattle.dq_journal.specs.declared.entry.Entry.{Entry}
use Rattle.dq_fates.specs.GoingOn.{GoesOn}
use Rattle.dq_lane.specs.View.{LaneOf, new_lane}

-- the lanes of the script, none of which began
abbrev pub all_new : LoadedFiles → List LaneOf
all_new l = map (new_lane l) (range_with_len 1 (length l.script.lanes))

-- stands for a lane that isn't there
abbrev pub no_lane : LoadedFiles → LaneOf
no_lane l = new_lane l 0

-- the lane of that number stands where the journal is, but for entries of others
pub record IsOn (l : LoadedFiles) (journal : List Entry) (number : ℕ) (v : LaneOf) : Type 0 where
  pub numbered : v.number ≡ number
  pub loaded : v.loaded ≡ l
  pub goes_on : GoesOn number v.seen journal

-- the lanes of the script, numbered from 1 in order, stand on the journal
pub record AreOn (l : LoadedFiles) (journal : List Entry) (lanes : List LaneOf) : Type 0 where
  pub count : length lanes ≡ length l.script.lanes
  pub each : (k : ℕ) → k < length lanes → IsOn l journal (k + 1) (slice_index_or lanes k (no_lane l))

abbrev pub IsDone : LaneOf → Type 0
IsDone v = v.done ≡ true

-- where the entries of its steps stand, or none for a refused step
abbrev pub places_in : LaneOf → List (Option ℕ)
places_in v = v.places
