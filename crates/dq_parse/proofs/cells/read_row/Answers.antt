use Rattle.dq_parse.proofs.Rows.{row_empty}
use Rattle.dq_parse.proofs.cells.read_row.Goals as goal

pub returns-then-skip : goal.returns-then-skip
returns-then-skip c = row_empty c.new.ensures c.if-skip.ensures
