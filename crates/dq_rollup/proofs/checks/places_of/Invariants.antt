use Rattle.std.proofs.Common.{take}
use Rattle.dq_rollup.specs.Keys.{IsPlaced}
use Rattle.dq_rollup.specs.Pairs.{Paired}
use Rattle.dq_rollup.proofs.checks.places_of.Given as goal

abbrev pub invariant-loop-f : goal.invariant-loop-f
invariant-loop-f l = Paired (IsPlaced l.dims) (take l.f-index l.filters) l.places
