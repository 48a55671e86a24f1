use Rattle.std.proofs.Common.{take}
use Rattle.std.specs.List.{AllByRecursion}
use Rattle.dq_base.specs.declared.predicate.Predicate.{Predicate}
use Rattle.dq_text.specs.Sizes.{IsSizedPredicate}
use Rattle.dq_text.specs.Statements.{plain_predicate}
use Rattle.dq_text.proofs.sizes.fit_filters.Given as goal

abbrev pub invariant-loop-predicate : goal.invariant-loop-predicate
invariant-loop-predicate l = AllByRecursion (λ (p : Predicate). IsSizedPredicate (plain_predicate p)) (take l.predicate-index l.filters)
