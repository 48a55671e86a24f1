use Rattle.std.proofs.Common.{take}
use Rattle.std.specs.List.{AllByRecursion}
use Rattle.dq_text.specs.Sizes.{IsSizedPredicate}
use Rattle.dq_text.proofs.sizes.fit_said_filters.Given as goal

abbrev pub invariant-loop-predicate : goal.invariant-loop-predicate
invariant-loop-predicate l = AllByRecursion IsSizedPredicate (take l.predicate-index l.filters)
