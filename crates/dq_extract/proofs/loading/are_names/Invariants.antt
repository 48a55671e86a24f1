use Rattle.std.proofs.Common.{◌≡◌, drop, bytes_eq}
use Rattle.std.specs.Cmp.Lexicographic.{pointwise}
use Rattle.csv.specs.Records.{fields_of}
use Rattle.dq_extract.proofs.loading.are_names.Given as goal

abbrev pub invariant-loop-place : goal.invariant-loop-place
invariant-loop-place l = pointwise bytes_eq l.names (fields_of l.row) ≡ pointwise bytes_eq (drop l.place l.names) (drop l.place (fields_of l.row))
