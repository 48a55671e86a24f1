use Rattle.std.proofs.Common.{◌≡◌, ◌++◌, drop}
use Rattle.dq_machine.specs.Owning.{own_flights}
use Rattle.dq_check.proofs.origins.own_flights.Given as goal

abbrev pub invariant-loop-one : goal.invariant-loop-one
invariant-loop-one l = own_flights l.met l.takes ≡ l.owns.items ++ own_flights (drop l.one-index l.met) l.left
