use Rattle.std.proofs.Common.{◌≡◌, ◌++◌, drop}
use Rattle.dq_machine.specs.Owning.{spread}
use Rattle.dq_check.proofs.origins.spread.Given as goal

abbrev pub invariant-loop-role : goal.invariant-loop-role
invariant-loop-role l = spread l.roles l.owns ≡ l.flights.items ++ spread (drop l.role-index l.roles) l.left
