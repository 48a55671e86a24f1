use Rattle.std.proofs.Common.{◌≡◌, drop}
use Rattle.dq_rollup.specs.Keys.{passes}
use Rattle.dq_rollup.proofs.checks.passes.Given as goal

abbrev pub invariant-loop-i : goal.invariant-loop-i
invariant-loop-i l = passes (drop l.i l.filters) (drop l.i l.places) l.row ≡ passes l.filters l.places l.row
