-- What the Takes of a lane start.
use Rattle.std.specs.Prelude.{◌≡◌, ℕ, List, [], drop, slice_get, Option, Some, None}
use Rattle.dq_journal.specs.declared.entry.Entry.{Entry}
use Rattle.dq_machine.specs.Owning.{started_behind}

-- what all Takes start, in order, and for each number of entries how many Takes stand among so many
pub record TakesOf : Type 0 where
  pub started : List (Option ℕ)
  pub before : List ℕ

abbrev pub behind_count : List (Option ℕ) → Option ℕ → List (Option ℕ)
behind_count started None = []
behind_count started (Some count) = drop count started

-- what those behind so many entries start
abbrev pub behind_of : TakesOf → ℕ → List (Option ℕ)
behind_of t place = behind_count t.started (slice_get t.before place)

-- the Takes are the lane's
abbrev pub AreTakes : ℕ → List Entry → TakesOf → Type 0
AreTakes lane journal t = (place : ℕ) → behind_of t place ≡ started_behind journal lane place
