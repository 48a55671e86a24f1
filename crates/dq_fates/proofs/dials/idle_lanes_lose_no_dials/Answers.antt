use Rattle.dq_fates.proofs.Dialled.{dials_idle}
use Rattle.dq_fates.proofs.dials.idle_lanes_lose_no_dials.Goals as goal

pub returns : goal.returns
returns c = dials_idle c.args.lane c.args.journal.now c.args.more.now c.requires.idle
