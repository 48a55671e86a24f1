use Rattle.dq_laws.proofs.Over.{over}
use Rattle.dq_laws.proofs.settled.left_flights_are_over.Goals as goal

pub returns : goal.returns
returns c = over c.args.loaded.now c.args.journal.now c.args.more.now c.args.flight c.requires.legal c.requires.over
