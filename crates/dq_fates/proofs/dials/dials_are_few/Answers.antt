use Rattle.dq_fates.proofs.Dialled.{dials_within}
use Rattle.dq_fates.proofs.dials.dials_are_few.Goals as goal

pub returns : goal.returns
returns c = dials_within c.args.lane c.args.journal.now
