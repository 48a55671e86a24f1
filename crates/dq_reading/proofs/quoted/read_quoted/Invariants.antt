use Rattle.std.proofs.Common.{length, flat_map}
use Rattle.std.specs.List.{AllByRecursion}
use Rattle.dq_base.specs.Sizes.{IsByte}
use Rattle.dq_base.specs.Spelling.{spelled_byte}
use Rattle.dq_base.proofs.ToldTexts.{Quotes}
use Rattle.dq_reading.proofs.Loops.{SoFar}
use Rattle.dq_reading.proofs.quoted.read_quoted.Given as goal

abbrev pub invariant-loop-left : goal.invariant-loop-left
invariant-loop-left l = SoFar (AllByRecursion IsByte) IsByte Quotes (flat_map spelled_byte) spelled_byte l.fn.left l.left l.text

abbrev pub decreases-loop-left : goal.decreases-loop-left
decreases-loop-left l = length l.left
