use Rattle.std.proofs.Common.{length}
use Rattle.dq_machine.proofs.meeting.+are_met.Given as goal

abbrev pub decreases-are_met : goal.decreases-are_met
decreases-are_met l = length l.a.now
