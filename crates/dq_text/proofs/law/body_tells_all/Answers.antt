use Rattle.dq_text.proofs.ToldWhole.{body_same}
use Rattle.dq_text.proofs.law.body_tells_all.Goals as goal

pub returns : goal.returns
returns c = body_same
