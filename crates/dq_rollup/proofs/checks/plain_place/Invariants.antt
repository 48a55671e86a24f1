use Rattle.std.proofs.Common.{◌≡◌, ◌&&◌, false, nat_eq, take}
use Rattle.std.specs.List.{list_any}
use Rattle.dq_base.specs.Dims.{is_plain}
use Rattle.dq_rollup.proofs.checks.plain_place.Given as goal

abbrev pub invariant-loop-place : goal.invariant-loop-place
invariant-loop-place l = list_any (λ d. nat_eq l.column d.column && is_plain d) (take l.place l.dims) ≡ false
