use Rattle.std.proofs.Common.{◌≡◌, ◌≤◌, length, ◌+◌, ◌*◌}
use Rattle.dq_extract.specs.Rows.{rows_from}
use Rattle.dq_extract.proofs.Walk.{with_all}
use Rattle.dq_extract.proofs.loading.read_rows.Given as goal

abbrev pub invariant-loop-rows : goal.invariant-loop-rows
invariant-loop-rows l = record {
  so_far : rows_from l.schema l.room 1 l.fn.records.left ≡ with_all l.rows (rows_from l.schema l.room (length l.rows + 1) l.records.left);
  cells : l.cells ≡ length l.rows * l.columns;
  within : l.cells ≤ l.room;
}

abbrev pub decreases-loop-rows : goal.decreases-loop-rows
decreases-loop-rows l = length l.records.left
