use Rattle.std.proofs.Common.{◌≡◌, map, take}
use Rattle.dq_script.proofs.dims.dims_of.Given as goal

abbrev pub invariant-loop-grouping : goal.invariant-loop-grouping
invariant-loop-grouping l = l.dims ≡ map (λ g. g.dim) (take l.grouping-index l.by)
