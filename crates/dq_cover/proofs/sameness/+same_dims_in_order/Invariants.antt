use Rattle.std.proofs.Common.{length}
use Rattle.dq_cover.proofs.sameness.+same_dims_in_order.Given as goal

abbrev pub decreases-same_dims_in_order : goal.decreases-same_dims_in_order
decreases-same_dims_in_order l = length l.a.now
