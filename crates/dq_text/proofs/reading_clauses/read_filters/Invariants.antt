use Rattle.std.proofs.Common.{length, flat_map}
use Rattle.std.specs.List.{AllByRecursion}
use Rattle.dq_text.specs.Reading.{After}
use Rattle.dq_text.specs.Sizes.{IsSizedPredicate}
use Rattle.dq_text.specs.Statements.{where_text}
use Rattle.dq_text.proofs.Loops.{SoFar}
use Rattle.dq_text.proofs.reading_clauses.read_filters.Given as goal

abbrev pub invariant-loop-alloc : goal.invariant-loop-alloc
invariant-loop-alloc l = SoFar (AllByRecursion IsSizedPredicate) IsSizedPredicate (After 1) (flat_map where_text) where_text l.fn.left l.left l.filters

abbrev pub decreases-loop-alloc : goal.decreases-loop-alloc
decreases-loop-alloc l = length l.left
