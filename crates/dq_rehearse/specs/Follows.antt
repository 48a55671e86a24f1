-- The journal follows the turns.
use Rattle.std.specs.Prelude.{◌≡◌, ℕ, zero, suc, ◌+◌, ◌-◌, ◌<◌, ◌≤◌, Bool, true, false, ◌&&◌, ◌||◌, List, [], ◌∷◌, ◌++◌, length, map, replicate, slice_get, slice_set, slice_index_or, Option, Some, None}
use Rattle.std.specs.List.{range_with_len}
use Rattle.dq_extract.specs.Loads.{LoadedFiles}
use Rattle.dq_journal.specs.Journals.{lane_of}
use Rattle.dq_journal.specs.Steps.{step_in}
use Rattle.dq_journal.specs.declared.entry.Entry.{Entry}
use Rattle.dq_journal.specs.declared.result.StepResult.{StepResult}
use Rattle.dq_machine.specs.Machine.{after}
use Rattle.dq_machine.specs.State.{State, Work, is_free, work_of}
use Rattle.dq_machine.specs.Taking.{waits}
use Rattle.dq_lane.specs.View.{place_of}

-- turns

-- a round: a turn of each lane, from the first to the last
abbrev pub round_of : LoadedFiles → List ℕ
round_of l = range_with_len 1 (length l.script.lanes)

abbrev pub rounds_of : LoadedFiles → ℕ → List ℕ
rounds_of l zero = []
rounds_of l (suc count) = rounds_of l count ++ round_of l

-- the walk

-- the journal so far, and how many steps each lane has used up
pub record Cursor : Type 0 where
  pub journal : List Entry
  pub used : List ℕ

abbrev pub at_start : LoadedFiles → Cursor
at_start l = record { journal = []; used = replicate (length l.script.lanes) 0 }

abbrev pub used_of : Cursor → ℕ → ℕ
used_of c lane = slice_index_or c.used (lane - 1) 0

abbrev pub use_up : Cursor → ℕ → ℕ → List ℕ
use_up c lane count = slice_set c.used (lane - 1) (used_of c lane + count)

-- where the entry of the lane's next step stands, if there is such a step; none is for a refused one
abbrev pub next_place : List (List (Option ℕ)) → Cursor → ℕ → Option (Option ℕ)
next_place places c lane = slice_get (slice_index_or places (lane - 1) []) (used_of c lane)

abbrev pub is_refused : Option (Option ℕ) → Bool
is_refused None = false
is_refused (Some None) = true
is_refused (Some (Some place)) = false

-- a turn of the lane passes: it has ended, or it waits for another lane's flight
abbrev pub passes : State → Work → Bool
passes s w = w.ended || waits s w

-- one more entry, which is the lane's
pub record HasEntry (c : Cursor) (lane : ℕ) (d : Cursor) : Type 0 where
  pub entry : Entry
  pub of_lane : lane_of entry ≡ lane
  pub is : d ≡ record { journal = c.journal ++ entry ∷ []; used = use_up c lane (length (step_in entry)) }

abbrev pub TurnBy : (passes refused : Bool) → Cursor → ℕ → Cursor → Type 0
TurnBy true refused c lane d = d ≡ c
-- a refused step is used up without an entry
TurnBy false true c lane d = d ≡ record { journal = c.journal; used = use_up c lane 1 }
TurnBy false false c lane d = HasEntry c lane d

-- a refused step has its turn once nothing of the lane is open
abbrev pub TurnOf : State → Work → Option (Option ℕ) → Cursor → ℕ → Cursor → Type 0
TurnOf s w next c lane d = TurnBy (passes s w) (is_free w && is_refused next) c lane d

abbrev pub Turn : LoadedFiles → List (List (Option ℕ)) → Cursor → ℕ → Cursor → Type 0
Turn l places c lane d = TurnOf (after l c.journal) (work_of (after l c.journal) lane) (next_place places c lane) c lane d

abbrev pub Walk : LoadedFiles → List (List (Option ℕ)) → Cursor → List ℕ → Cursor → Type 0
Walk l places c [] d = d ≡ c
Walk l places c (lane ∷ turns) d = (m : Cursor) × Turn l places c lane m × Walk l places m turns d

-- whole runs

-- the turns are the schedule's and then rounds, until every lane has ended, and use up the journal exactly
pub record FollowsTurns (l : LoadedFiles) (schedule : List ℕ) (journal : List Entry) (places : List (List (Option ℕ))) : Type 0 where
  pub rounds : ℕ
  pub used : List ℕ
  pub walk : Walk l places (at_start l) (schedule ++ rounds_of l rounds) (record { journal = journal; used = used })
  pub over : (lane : ℕ) → 0 < lane → lane ≤ length l.script.lanes → (work_of (after l journal) lane).ended ≡ true

-- where results tell that their steps' entries stand
abbrev pub places_told : List (List StepResult) → List (List (Option ℕ))
places_told results = map (λ steps. map place_of steps) results

-- the journal of results follows the script's schedule
abbrev pub Follows : LoadedFiles → List Entry → List (List StepResult) → Type 0
Follows l journal results = FollowsTurns l l.script.schedule journal (places_told results)
