-- How often a lane's first flight may have lost a link.
use Rattle.std.specs.Prelude.{ℕ, ◌≤◌}
use Rattle.dq_machine.specs.State.{Phase, New, Leased, Given}

-- one that has a link lost no more than one before, and one that has none no more than two
abbrev pub LostFew : Phase → Type 0
LostFew (New losses) = losses ≤ 2
LostFew (Leased losses fresh k) = losses ≤ 1
LostFew (Given ran) = Unit {0}
