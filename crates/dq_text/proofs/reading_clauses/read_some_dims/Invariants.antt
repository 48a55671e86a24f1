use Rattle.std.proofs.Common.{length}
use Rattle.dq_text.specs.Reading.{After, AllSome}
use Rattle.dq_text.specs.Sizes.{IsSizedDim}
use Rattle.dq_text.specs.Statements.{after_comma, dim_text, joined}
use Rattle.dq_text.proofs.Loops.{SoFar}
use Rattle.dq_text.proofs.reading_clauses.read_some_dims.Given as goal

abbrev pub invariant-loop-left : goal.invariant-loop-left
invariant-loop-left l = SoFar (AllSome IsSizedDim) IsSizedDim (After 2) (joined dim_text) (after_comma dim_text) l.fn.left l.left l.dims

abbrev pub decreases-loop-left : goal.decreases-loop-left
decreases-loop-left l = length l.left
