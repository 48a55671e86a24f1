use Rattle.dq_text.proofs.Parts.{bracket_read}
use Rattle.dq_text.proofs.reading_values.read_bracketed.Goals as goal

pub returns-then-skip : goal.returns-then-skip
returns-then-skip c = bracket_read c.new.ensures c.if-skip.ensures
