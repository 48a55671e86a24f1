-- What a dialer in memory has done, and when it fails.
use Rattle.std.specs.Prelude.{ℕ, Bool, nat_eq, List}
use Rattle.std.specs.List.{count_by, list_any, range_with_len}
use Rattle.dq_base.specs.declared.script.Fails.{Fails}

-- what is planned to fail, how often it was to dial, and how many links it gave
pub record PlannedDialer : Type 0 where
  pub plan : Fails
  pub dials : ℕ
  pub given : ℕ

-- a dialer that wasn't called
abbrev pub new_dialer : Fails → PlannedDialer
new_dialer fails = record { plan = fails; dials = 0; given = 0 }

-- the number is an item of the list
abbrev pub is_item : List ℕ → ℕ → Bool
is_item list n = list_any (nat_eq n) list

-- how many different items of the list are from 1 to n
abbrev pub items_up_to : List ℕ → ℕ → ℕ
items_up_to list n = count_by (is_item list) (range_with_len 1 n)
