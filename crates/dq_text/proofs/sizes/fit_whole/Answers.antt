use Rattle.dq_text.proofs.Parts.{whole_fits}
use Rattle.dq_text.proofs.sizes.fit_whole.Goals as goal

pub returns : goal.returns
returns c = whole_fits c.args.number c.ranges.number
