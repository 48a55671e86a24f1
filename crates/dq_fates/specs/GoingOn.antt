-- Journals that go on while a lane is idle.
use Rattle.std.specs.Prelude.{◌≡◌, ℕ, List, [], ◌++◌}
use Rattle.dq_journal.specs.Steps.{entries_of}
use Rattle.dq_journal.specs.declared.entry.Entry.{Entry}

-- the journal goes on, without an entry of the lane
pub record GoesOn (lane : ℕ) (old new : List Entry) : Type 0 where
  pub more : List Entry
  pub is : new ≡ old ++ more
  pub idle : entries_of lane more ≡ []
