use Rattle.std.proofs.Common.{take}
use Rattle.dq_rollup.specs.Keys.{IsMade}
use Rattle.dq_rollup.specs.Pairs.{Paired}
use Rattle.dq_rollup.proofs.key.plan_keys.Given as goal

abbrev pub invariant-loop-d : goal.invariant-loop-d
invariant-loop-d l = Paired (IsMade l.held) (take l.d-index l.asked) l.plan
