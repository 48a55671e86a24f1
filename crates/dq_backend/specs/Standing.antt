-- What stands on a link in memory, and when such a link fails.
use Rattle.std.specs.Prelude.{ℕ, ◌+◌, nat_le, nat_eq, Bool, ◌&&◌, List, [], if◌then◌else◌}
use Rattle.dq_base.specs.declared.value.Value.{Value}
use Rattle.dq_link.specs.Mounts.{Mounted}

-- what is mounted by source, the lists in tables by number, and how often `run` and any call was made
pub record Standing : Type 0 where
  pub mounts : List (ℕ × Mounted)
  pub tables : List (ℕ × List Value)
  pub runs : ℕ
  pub calls : ℕ

-- of a link that wasn't called
abbrev pub nothing_standing : Standing
nothing_standing = record { mounts = []; tables = []; runs = 0; calls = 0 }

-- a link, and the number of its call that fails, 0 for none
pub record PlannedLink : Type 0 where
  pub standing : Standing
  pub planned : ℕ

-- 1 where the planned call is from 1 to the calls, and else 0
abbrev pub faults_by : ℕ → ℕ → ℕ
faults_by planned calls = if nat_le 1 planned && nat_le planned calls then 1 else 0

-- a link that never fails, and the number of its call that finds no memory
pub record ShortStanding : Type 0 where
  pub standing : Standing
  pub at : ℕ

-- the next call is that one
abbrev pub is_short : ShortStanding → Bool
is_short l = nat_eq (l.standing.calls + 1) l.at

-- a dialer that gives such links, and how many it gave
pub record ShortDialled : Type 0 where
  pub at : ℕ
  pub given : ℕ
