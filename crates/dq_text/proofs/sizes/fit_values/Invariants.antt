use Rattle.std.proofs.Common.{take}
use Rattle.std.specs.List.{AllByRecursion}
use Rattle.dq_text.specs.Sizes.{IsSizedValue}
use Rattle.dq_text.proofs.sizes.fit_values.Given as goal

abbrev pub invariant-loop-value : goal.invariant-loop-value
invariant-loop-value l = AllByRecursion IsSizedValue (take l.value-index l.values)
