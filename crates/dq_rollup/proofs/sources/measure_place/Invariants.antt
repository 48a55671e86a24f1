use Rattle.std.proofs.Common.{◌≡◌, false, take}
use Rattle.std.specs.List.{list_any}
use Rattle.dq_base.specs.Covering.{measure_eq}
use Rattle.dq_rollup.proofs.sources.measure_place.Given as goal

abbrev pub invariant-loop-place : goal.invariant-loop-place
invariant-loop-place l = list_any (measure_eq l.m) (take l.place l.measures) ≡ false
