use Rattle.std.proofs.Common.{◌≡◌, ◌+◌, drop}
use Rattle.csv.specs.Records.{fields_of}
use Rattle.dq_extract.specs.Rows.{values_from}
use Rattle.dq_extract.proofs.Walk.{with_all}
use Rattle.dq_extract.proofs.loading.read_row.Given as goal

abbrev pub invariant-loop-place : goal.invariant-loop-place
invariant-loop-place l =
    values_from l.number 1 l.sorts (fields_of l.row) ≡ with_all l.values (values_from l.number (l.place + 1) (drop l.place l.sorts) (drop l.place (fields_of l.row)))
