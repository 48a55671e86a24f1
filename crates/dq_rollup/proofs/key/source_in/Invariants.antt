use Rattle.std.proofs.Common.{◌≡◌, false, take}
use Rattle.std.specs.List.{list_any}
use Rattle.dq_base.specs.Covering.{made_of}
use Rattle.dq_rollup.proofs.key.source_in.Given as goal

abbrev pub invariant-loop-place : goal.invariant-loop-place
invariant-loop-place l = list_any (made_of l.d) (take l.place l.dims) ≡ false
