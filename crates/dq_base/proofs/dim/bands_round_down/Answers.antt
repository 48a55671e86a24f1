use Rattle.dq_base.proofs.Bands.{rounded_down}
use Rattle.dq_base.proofs.dim.bands_round_down.Goals as goal

pub returns : goal.returns
returns c = rounded_down
