use Rattle.dq_shield.proofs.StillFits.{still_fits}
use Rattle.dq_shield.proofs.shielding.shield.Goals as goal

pub returns-clause-fits : goal.returns-clause-fits
returns-clause-fits c = λ fits. rw c.in_ok-shield_lanes.ensures (still_fits c.args.script fits)
