use Rattle.dq_text.proofs.Parts.{negative_reads}
use Rattle.dq_text.proofs.reading_numbers.read_whole.Goals as goal

pub returns-then-skip : goal.returns-then-skip
returns-then-skip c = negative_reads _ c.read_negative.result c.if-skip.ensures c.read_negative.ensures
