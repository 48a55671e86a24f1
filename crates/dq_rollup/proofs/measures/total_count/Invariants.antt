use Rattle.std.proofs.Common.{◌≡◌, ◌+◌, [], take, slice_index_or}
use Rattle.std.specs.List.{fold}
use Rattle.dq_rollup.specs.Reading.{counted}
use Rattle.dq_rollup.proofs.measures.total_count.Given as goal

abbrev pub invariant-loop-place : goal.invariant-loop-place
invariant-loop-place l = l.n ≡ fold (λ n place. n + counted l.part (slice_index_or l.held place [])) 0 (take l.place-index l.places)
