use Rattle.dq_reading.proofs.Parts.{negative_reads}
use Rattle.dq_reading.proofs.numbers.read_wide.Goals as goal

pub returns-then-skip : goal.returns-then-skip
returns-then-skip c = negative_reads _ c.read_negative.result c.if-skip.ensures c.read_negative.ensures
