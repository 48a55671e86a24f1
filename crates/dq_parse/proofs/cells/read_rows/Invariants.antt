use Rattle.dq_parse.specs.Sizes.{IsSizedRow}
use Rattle.dq_parse.proofs.Counted.{Met}
use Rattle.dq_parse.proofs.Tables.{rows_from}
use Rattle.dq_parse.proofs.cells.read_rows.Given as goal

abbrev pub invariant-loop-place : goal.invariant-loop-place
invariant-loop-place l = Met IsSizedRow rows_from l.count l._place l.fn.left l.left l.rows
