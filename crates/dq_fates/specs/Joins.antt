-- The joins of a batch.
use Rattle.std.specs.Prelude.{ℕ, ◌+◌, List, [], ◌∷◌}
use Rattle.dq_journal.specs.declared.entry.Met.{Met}
use Rattle.dq_journal.specs.declared.entry.Met.TheVariants as met

-- how many queries joined a flight
abbrev pub joins_in : List Met → ℕ
joins_in [] = 0
joins_in (met.Hit f ∷ ms) = joins_in ms
joins_in (met.Literal f ∷ ms) = joins_in ms
joins_in (met.Group f ∷ ms) = joins_in ms
joins_in (met.Join f ∷ ms) = joins_in ms + 1
