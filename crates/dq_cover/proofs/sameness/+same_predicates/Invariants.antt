use Rattle.std.proofs.Common.{length}
use Rattle.dq_cover.proofs.sameness.+same_predicates.Given as goal

abbrev pub decreases-same_predicates : goal.decreases-same_predicates
decreases-same_predicates l = length l.a.now
