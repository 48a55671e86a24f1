-- Dials that failed.
use Rattle.std.specs.Prelude.{ℕ, Bool, false, ◌&&◌, not, nat_eq, List, length, filter}
use Rattle.dq_journal.specs.declared.entry.Entry.{Entry}
use Rattle.dq_journal.specs.declared.entry.Entry.TheVariants.{Publish, Admit, Lease, Give, Lose, Land, Fall, Take, End}

-- the lane loses a link that wasn't dialled
abbrev pub is_undialled : ℕ → Entry → Bool
is_undialled lane (Publish a step) = false
is_undialled lane (Admit a step met) = false
is_undialled lane (Lease a flight link fresh) = false
is_undialled lane (Give a flight link ran runs calls) = false
is_undialled lane (Lose a flight link dialled ran runs calls) = nat_eq a lane && not dialled
is_undialled lane (Land a flight cells clever literal) = false
is_undialled lane (Fall a flight cause) = false
is_undialled lane (Take a flight next) = false
is_undialled lane (End a) = false

-- how many dials of the lane failed
abbrev pub lost_dials : ℕ → List Entry → ℕ
lost_dials lane journal = length (filter (is_undialled lane) journal)
