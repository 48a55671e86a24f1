use Rattle.std.proofs.Common.{◌≡◌, [], None, take, slice_index_or}
use Rattle.std.specs.List.{fold}
use Rattle.dq_rollup.specs.Reading.{cell_in, lower, some_value, value_of}
use Rattle.dq_rollup.proofs.measures.least_in.Given as goal

abbrev pub invariant-loop-place : goal.invariant-loop-place
invariant-loop-place l = l.best ≡ fold (λ best place. lower best (some_value (value_of (cell_in (slice_index_or l.held place []) l.at)))) None (take l.place-index l.places)
