use Rattle.std.proofs.Common.{◌≡◌, map, take}
use Rattle.dq_rollup.specs.Keys.{made_value}
use Rattle.dq_rollup.proofs.key.make_key.Given as goal

abbrev pub invariant-loop-m : goal.invariant-loop-m
invariant-loop-m l = l.key ≡ map (made_value l.row) (take l.m-index l.plan)
