use Rattle.std.proofs.Common.{◌≡◌, ◌+◌, ◌++◌, drop}
use Rattle.dq_machine.specs.Admitting.{numbers_from}
use Rattle.dq_machine.proofs.flights.numbers_of.Given as goal

abbrev pub invariant-loop-place : goal.invariant-loop-place
invariant-loop-place l = numbers_from l.first l.groups ≡ l.numbers ++ numbers_from (l.first + l.place) (drop l.place l.groups)
