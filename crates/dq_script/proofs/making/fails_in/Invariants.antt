use Rattle.std.proofs.Common.{◌≡◌, drop}
use Rattle.dq_script.specs.Scripts.{fails_in}
use Rattle.dq_script.proofs.making.fails_in.Given as goal

abbrev pub invariant-loop-fault : goal.invariant-loop-fault
invariant-loop-fault l = fails_in l.faults l.lane ≡ fails_in (drop l.fault-index l.faults) l.lane
