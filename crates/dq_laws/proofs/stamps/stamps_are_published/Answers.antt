use Rattle.dq_laws.proofs.Published.{stamped}
use Rattle.dq_laws.proofs.stamps.stamps_are_published.Goals as goal

pub returns : goal.returns
returns c = stamped c.args.loaded.now c.args.journal.now c.requires.legal
