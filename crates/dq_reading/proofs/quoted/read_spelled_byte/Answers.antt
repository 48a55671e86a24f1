use Rattle.dq_reading.proofs.Parts.{escaped_reads}
use Rattle.dq_reading.proofs.quoted.read_spelled_byte.Goals as goal

pub returns-then-skip : goal.returns-then-skip
returns-then-skip c = escaped_reads _ c.read_escaped.result c.if-skip.ensures c.read_escaped.ensures
