use Rattle.std.proofs.Common.{◌≡◌, [], take, slice_index_or}
use Rattle.std.specs.List.{fold}
use Rattle.std.specs.BTreeSet.{keys}
use Rattle.dq_rollup.specs.Derived.{with_some}
use Rattle.dq_rollup.specs.Reading.{cell_in, some_value, value_of}
use Rattle.dq_rollup.proofs.measures.different_in.Given as goal

abbrev pub invariant-loop-place : goal.invariant-loop-place
invariant-loop-place l = keys l.set ≡ fold (λ set place. with_some (some_value (value_of (cell_in (slice_index_or l.held place []) l.at))) set) [] (take l.place-index l.places)
