-- What a turn does to all lanes, and how the journal follows the turns so far.
use Rattle.std.specs.Prelude.{◌≡◌, ℕ, ◌+◌, ◌-◌, ◌<◌, ◌≤◌, Bool, true, false, List, [], ◌++◌, length, map, slice_index_or, sum_by, Option}
use Rattle.dq_extract.specs.Loads.{LoadedFiles}
use Rattle.dq_journal.specs.declared.entry.Entry.{Entry}
use Rattle.dq_laws.specs.Lengths.{entries_for}
use Rattle.dq_machine.specs.Machine.{after, legal}
use Rattle.dq_machine.specs.State.{work_of}
use Rattle.dq_rehearse.specs.Follows.{Cursor, Walk, at_start, passes, rounds_of}
use Rattle.dq_rehearse.specs.Lanes.{AreOn, IsOn, no_lane}
use Rattle.dq_lane.specs.Turns.{Moves}
use Rattle.dq_lane.specs.View.{LaneOf, steps_of}

-- one lane

-- a turn of the lane of that number passes
abbrev pub passes_at : LoadedFiles → List Entry → ℕ → Bool
passes_at l journal number = passes (after l journal) (work_of (after l journal) number)

-- it wasn't done, and moved; or it passed, and nothing changed but what it has seen
abbrev pub TurnedBy : Bool → LoadedFiles → ℕ → LaneOf → LaneOf → List Entry → List Entry → Type 0
TurnedBy true l number v w old new = (v.done ≡ false) × Moves v w old new
TurnedBy false l number v w old new = (passes_at l old number ≡ true) × (w.done ≡ v.done) × (w.places ≡ v.places) × (new ≡ old)

-- a turn of the lane of that number
pub record Turns (l : LoadedFiles) (number : ℕ) (v w : LaneOf) (old new : List Entry) (moved : Bool) : Type 0 where
  pub on : IsOn l new number w
  pub legal : legal l new ≡ true
  pub ended : (work_of (after l old) number).ended ≡ v.done
  pub turn : TurnedBy moved l number v w old new

-- all lanes

-- how many of its steps didn't have their turn
abbrev pub left_of : LaneOf → ℕ
left_of v = length (steps_of v.loaded v.number) - length v.places

-- how many turns can move at most: each is that of a step, or an entry
abbrev pub turns_left : LoadedFiles → List Entry → List LaneOf → ℕ
turns_left l journal lanes = sum_by left_of lanes + (entries_for l.script.lanes - length journal)

-- a turn of the lane at that place passes, and the journal has its End if it is done
pub record IsPassing (l : LoadedFiles) (journal : List Entry) (lanes : List LaneOf) (k : ℕ) : Type 0 where
  pub passes : passes_at l journal (k + 1) ≡ true
  pub ended : (work_of (after l journal) (k + 1)).ended ≡ (slice_index_or lanes k (no_lane l)).done

-- so are the first ones
pub record ArePassing (l : LoadedFiles) (journal : List Entry) (lanes : List LaneOf) (count : ℕ) : Type 0 where
  pub each : (k : ℕ) → k < count → IsPassing l journal lanes k

-- the lane at that place is done, and the journal has its End
pub record IsOver (l : LoadedFiles) (journal : List Entry) (lanes : List LaneOf) (k : ℕ) : Type 0 where
  pub done : (slice_index_or lanes k (no_lane l)).done ≡ true
  pub ended : (work_of (after l journal) (k + 1)).ended ≡ true

-- so are the first ones
pub record AreOver (l : LoadedFiles) (journal : List Entry) (lanes : List LaneOf) (count : ℕ) : Type 0 where
  pub each : (k : ℕ) → k < count → IsOver l journal lanes k

-- a turn that passed changed no more than what the lane has seen
pub record Passed (l : LoadedFiles) (place : ℕ) (old new : List LaneOf) (before now : List Entry) : Type 0 where
  pub count : length new ≡ length old
  pub left : turns_left l now new ≡ turns_left l before old
  pub passing : IsPassing l now new place
  pub keeps : (k : ℕ) → IsPassing l before old k → IsPassing l now new k

-- a turn of the lane at that place: it moved, and there is a turn less to come, or it passed
abbrev pub Turned : LoadedFiles → ℕ → List LaneOf → List LaneOf → List Entry → List Entry → Bool → Type 0
Turned l place old new before now true = (length new ≡ length old) × (turns_left l now new + 1 ≤ turns_left l before old)
Turned l place old new before now false = Passed l place old new before now

-- places that a lane's steps may still end with
pub record MayEndWith (v : LaneOf) (places : List (Option ℕ)) : Type 0 where
  pub more : List (Option ℕ)
  pub is : places ≡ v.places ++ more
  pub done : v.done ≡ true → more ≡ []

pub record MayAllEndWith (l : LoadedFiles) (lanes : List LaneOf) (places : List (List (Option ℕ))) : Type 0 where
  pub each : (k : ℕ) → k < length lanes → MayEndWith (slice_index_or lanes k (no_lane l)) (slice_index_or places k [])

abbrev pub used_len : LaneOf → ℕ
used_len v = length v.places

abbrev pub cursor : List Entry → List LaneOf → Cursor
cursor journal lanes = record { journal = journal; used = map used_len lanes }

-- whatever the lanes end with, the journal so far follows these turns
pub record FollowsSoFar (l : LoadedFiles) (journal : List Entry) (lanes : List LaneOf) (turns : List ℕ) : Type 0 where
  pub walk : (places : List (List (Option ℕ))) → MayAllEndWith l lanes places → Walk l places (at_start l) turns (cursor journal lanes)

-- these turns were played
pub record HavePlayed (l : LoadedFiles) (turns : List ℕ) (old : List Entry) (before : List LaneOf) (new : List Entry) (now : List LaneOf) : Type 0 where
  pub on : AreOn l new now
  pub follows : (earlier : List ℕ) → FollowsSoFar l old before earlier → FollowsSoFar l new now (earlier ++ turns)

-- so many rounds were played
pub record HavePlayedRounds (l : LoadedFiles) (old : List Entry) (before : List LaneOf) (new : List Entry) (now : List LaneOf) : Type 0 where
  pub rounds : ℕ
  pub played : HavePlayed l (rounds_of l rounds) old before new now
