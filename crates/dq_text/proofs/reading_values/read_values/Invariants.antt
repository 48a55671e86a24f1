use Rattle.std.proofs.Common.{length}
use Rattle.dq_text.specs.Reading.{AllSome, Closes}
use Rattle.dq_text.specs.Sizes.{IsSizedValue}
use Rattle.dq_text.specs.Statements.{after_comma, joined, value_text}
use Rattle.dq_text.proofs.Loops.{SoFar}
use Rattle.dq_text.proofs.reading_values.read_values.Given as goal

abbrev pub invariant-loop-alloc : goal.invariant-loop-alloc
invariant-loop-alloc l = SoFar (AllSome IsSizedValue) IsSizedValue Closes (joined value_text) (after_comma value_text) l.fn.left l.left l.values

abbrev pub decreases-loop-alloc : goal.decreases-loop-alloc
decreases-loop-alloc l = length l.left
