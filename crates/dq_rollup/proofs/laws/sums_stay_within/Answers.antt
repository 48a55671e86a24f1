use Rattle.dq_rollup.proofs.Bounded.{sum_within}
use Rattle.dq_rollup.proofs.laws.sums_stay_within.Goals as goal

pub returns : goal.returns
returns c = sum_within
