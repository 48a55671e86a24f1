use Rattle.std.proofs.Common.{◌≡◌, ◌++◌, drop}
use Rattle.dq_machine.specs.Admitting.{meets_of}
use Rattle.dq_machine.proofs.meeting.meets.Given as goal

abbrev pub invariant-loop-met : goal.invariant-loop-met
invariant-loop-met l = meets_of l.found l.numbers ≡ l.meets ++ meets_of (drop l.met-index l.found) l.rest
