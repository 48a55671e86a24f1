use Rattle.dq_text.proofs.Parts.{star_read}
use Rattle.dq_text.proofs.reading_values.read_bound.Goals as goal

pub returns-then-skip : goal.returns-then-skip
returns-then-skip c = star_read c.if-skip.ensures
