use Rattle.std.proofs.Common.{◌≡◌, [], None, take, slice_index_or}
use Rattle.std.specs.List.{fold}
use Rattle.dq_rollup.specs.Reading.{plus_sum, summed}
use Rattle.dq_rollup.proofs.measures.total_sum.Given as goal

abbrev pub invariant-loop-place : goal.invariant-loop-place
invariant-loop-place l = l.sum ≡ fold (λ sum place. plus_sum sum (summed l.part (slice_index_or l.held place []))) None (take l.place-index l.places)
