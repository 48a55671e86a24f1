use Rattle.std.proofs.Common.{◌≡◌, replicate}
use Rattle.dq_machine.specs.State.{no_work}
use Rattle.dq_machine.proofs.machine.no_works.Given as goal

abbrev pub invariant-loop-lane : goal.invariant-loop-lane
invariant-loop-lane l = l.works ≡ replicate l.lane no_work
