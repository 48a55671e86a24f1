-- How a lane's dialer counts.
use Rattle.std.specs.Prelude.{◌≡◌, ℕ, ◌≤◌, Bool, true, false, Option, Some, IfSome}
use Rattle.dq_base.specs.Causes.{Rose}
use Rattle.dq_base.specs.Scripts.{numbered}
use Rattle.dq_base.specs.declared.script.Fails.{Fails}
use Rattle.dq_extract.specs.Loads.{LoadedFiles}

-- where a dialer tells its plan, it is what the script wants to fail in the lane
abbrev pub IsPlanOf : LoadedFiles → ℕ → Option Fails → Type 0
IsPlanOf l lane plan = IfSome plan (λ p. numbered l.script.fails lane ≡ Some p)

-- the faults of the dialer never fall; they rose where a dial failed now
abbrev pub UndialledBy : (before now : Bool) → ℕ → ℕ → Type 0
UndialledBy true true old new = old ≤ new
UndialledBy true false old new = ⊥
UndialledBy false true old new = (old ≤ new) × Rose old new
UndialledBy false false old new = old ≤ new
