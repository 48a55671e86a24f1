use Rattle.std.proofs.Common.{◌≡◌, ◌+◌, drop}
use Rattle.dq_machine.specs.Admitting.{number_in}
use Rattle.dq_machine.proofs.meeting.group_number.Given as goal

abbrev pub invariant-loop-group : goal.invariant-loop-group
invariant-loop-group l = (number_in l.first l.groups l.place ≡ number_in l.number (drop l.group-index l.groups) l.place) × (l.number ≡ l.first + l.group-index)
