-- Journals that go on, and the entries of one lane.
use Rattle.std.specs.Prelude.{◌≡◌, ◌⊎◌, ℕ, ◌+◌, Bool, true, false, List, [], ◌∷◌, ◌++◌, ◌==◌}
use Rattle.dq_journal.specs.declared.entry.Entry.{Entry}
use Rattle.dq_journal.specs.Journals.{lane_of}

-- the journal begins with what was seen
abbrev pub Begins : List Entry → List Entry → Type 0
Begins seen journal = (more : List Entry) × (journal ≡ seen ++ more)

-- an entry with its place, in front of others, where it is counted
abbrev pub placed : Bool → ℕ → Entry → List (ℕ × Entry) → List (ℕ × Entry)
placed true place e rest = (place, e) ∷ rest
placed false place e rest = rest

-- the entries of a lane, each with its place, in a journal that begins behind n entries
abbrev pub made_from : ℕ → ℕ → List Entry → List (ℕ × Entry)
made_from n lane [] = []
made_from n lane (e ∷ es) = placed (lane_of e == lane) (n + 1) e (made_from (n + 1) lane es)

-- the entries of a lane in a journal, each with its place from 1
abbrev pub made : ℕ → List Entry → List (ℕ × Entry)
made lane journal = made_from 0 lane journal

-- the journal goes on by one entry at most, which is of the lane
abbrev pub Grows : ℕ → List Entry → List Entry → Type 0
Grows lane old new = (new ≡ old) ⊎ ((e : Entry) × (new ≡ old ++ e ∷ []) × (lane_of e ≡ lane))
