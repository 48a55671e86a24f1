use Rattle.std.proofs.Common.{◌≡◌, ◌++◌, replicate}
use Rattle.dq_base.specs.declared.cell.Cell.TheVariants.{Null}
use Rattle.dq_blend.proofs.blending.push_nulls.Given as goal

abbrev pub invariant-loop : goal.invariant-loop
invariant-loop l = l.row ≡ l.fn.row ++ replicate l.counter Null
