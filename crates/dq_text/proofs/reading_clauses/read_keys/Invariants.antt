use Rattle.std.proofs.Common.{length}
use Rattle.dq_text.specs.Reading.{After, AllSome}
use Rattle.dq_text.specs.Sizes.{IsSizedKey}
use Rattle.dq_text.specs.Statements.{after_comma, joined, key_text}
use Rattle.dq_text.proofs.Loops.{SoFar}
use Rattle.dq_text.proofs.reading_clauses.read_keys.Given as goal

abbrev pub invariant-loop-left : goal.invariant-loop-left
invariant-loop-left l = SoFar (AllSome IsSizedKey) IsSizedKey (After 4) (joined key_text) (after_comma key_text) l.fn.left l.left l.keys

abbrev pub decreases-loop-left : goal.decreases-loop-left
decreases-loop-left l = length l.left
