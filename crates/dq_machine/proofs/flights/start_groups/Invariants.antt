use Rattle.std.proofs.Common.{◌≡◌, ◌+◌, ◌++◌, drop}
use Rattle.dq_machine.specs.Admitting.{group_flights}
use Rattle.dq_machine.proofs.flights.start_groups.Given as goal

abbrev pub invariant-loop-group : goal.invariant-loop-group
invariant-loop-group l =
    (l.initial.flown ++ group_flights l.versions l.lane l.first l.groups ≡ l.flown ++ group_flights l.versions l.lane l.number (drop l.group-index l.groups)) × (l.number ≡ l.first + l.group-index)
