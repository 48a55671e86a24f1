use Rattle.std.proofs.Common.{length}
use Rattle.dq_cover.proofs.sameness.+same_measures.Given as goal

abbrev pub decreases-same_measures : goal.decreases-same_measures
decreases-same_measures l = length l.a.now
