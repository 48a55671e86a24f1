-- How many links, runs and calls a journal can have brought.
use Rattle.std.specs.Prelude.{ℕ, ◌+◌, ◌*◌, ◌<◌, ◌≤◌, length, All}
use Rattle.dq_machine.specs.Leasing.{most_readying}
use Rattle.dq_machine.specs.State.{LinkOf, Phase, New, Leased, Given, State, work_of}

-- of a link for one statement: those that make it ready, and the run
abbrev pub most_calls : ℕ
most_calls = most_readying + 1

-- after so many entries, and with so many links that were fresh
pub record IsCounted (entries fresh : ℕ) (k : LinkOf) : Type 0 where
  pub above : 0 < k.number
  pub within : k.number ≤ fresh
  pub runs : k.runs ≤ entries
  pub calls : k.calls ≤ most_calls * entries

-- the link that a lane's first own flight has, if it has one
abbrev pub IsCountedOut : ℕ → ℕ → Phase → Type 0
IsCountedOut entries fresh (New losses) = Unit {0}
IsCountedOut entries fresh (Leased losses new k) = IsCounted entries fresh k
IsCountedOut entries fresh (Given ran) = Unit {0}

-- no more publications and fresh links than entries, and each link's counts are bounded by them
pub record AreCounted (entries : ℕ) (s : State) : Type 0 where
  pub versions : length s.versions ≤ entries
  pub fresh : s.links.fresh ≤ entries
  pub idle : All (IsCounted entries s.links.fresh) s.links.idle
  pub out : (lane : ℕ) → IsCountedOut entries s.links.fresh (work_of s lane).phase
