use Rattle.std.proofs.Common.{length}
use Rattle.dq_parse.proofs.Meetings.{Meetings}
use Rattle.dq_parse.proofs.entries.read_meets.Given as goal

abbrev pub invariant-loop-left : goal.invariant-loop-left
invariant-loop-left l = Meetings l.fn.left l.left l.meets

abbrev pub decreases-loop-left : goal.decreases-loop-left
decreases-loop-left l = length l.left
