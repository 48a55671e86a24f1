use Rattle.std.proofs.Common.{sym, ◌∙◌}
use Rattle.dq_backend.proofs.store.read_statement.Goals as goal

pub returns-in-Ok : goal.returns-in-Ok
returns-in-Ok c = λ t sized e. c.spelling_tells_all.ensures t c.in-Ok.statement sized c.in-Ok.ensures.0 (e ∙ sym c.in-Ok.ensures.1)
