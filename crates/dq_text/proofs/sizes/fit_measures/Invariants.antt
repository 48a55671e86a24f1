use Rattle.std.proofs.Common.{take}
use Rattle.std.specs.List.{AllByRecursion}
use Rattle.dq_text.specs.Sizes.{IsSizedMeasure}
use Rattle.dq_text.proofs.sizes.fit_measures.Given as goal

abbrev pub invariant-loop-measure : goal.invariant-loop-measure
invariant-loop-measure l = AllByRecursion IsSizedMeasure (take l.measure-index l.measures)
