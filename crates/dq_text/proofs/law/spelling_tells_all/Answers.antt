use Rattle.dq_text.proofs.ToldWhole.{spelling_same}
use Rattle.dq_text.proofs.law.spelling_tells_all.Goals as goal

pub returns : goal.returns
returns c = spelling_same
