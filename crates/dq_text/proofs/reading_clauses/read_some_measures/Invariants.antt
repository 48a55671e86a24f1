use Rattle.std.proofs.Common.{length}
use Rattle.dq_text.specs.Reading.{After, AllSome}
use Rattle.dq_text.specs.Sizes.{IsSizedMeasure}
use Rattle.dq_text.specs.Statements.{after_comma, joined, measure_text}
use Rattle.dq_text.proofs.Loops.{SoFar}
use Rattle.dq_text.proofs.reading_clauses.read_some_measures.Given as goal

abbrev pub invariant-loop-left : goal.invariant-loop-left
invariant-loop-left l = SoFar (AllSome IsSizedMeasure) IsSizedMeasure (After 3) (joined measure_text) (after_comma measure_text) l.fn.left l.left l.measures

abbrev pub decreases-loop-left : goal.decreases-loop-left
decreases-loop-left l = length l.left
