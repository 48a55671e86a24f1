use Rattle.dq_laws.proofs.Counting.{counted}
use Rattle.dq_laws.proofs.counts.counts_are_few.Goals as goal

pub returns : goal.returns
returns c = counted c.args.loaded.now c.args.journal.now c.requires.legal
