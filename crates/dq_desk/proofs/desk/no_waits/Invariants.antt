use Rattle.std.proofs.Common.{◌≡◌, [], replicate}
use Rattle.dq_desk.proofs.desk.no_waits.Given as goal

abbrev pub invariant-loop-lane : goal.invariant-loop-lane
invariant-loop-lane l = l.joins.items ≡ replicate l.lane []
