use Rattle.dq_zones.proofs.Fits.{fits}
use Rattle.dq_zones.proofs.laws.batches_fit.Goals as goal

pub returns : goal.returns
returns c = λ b p fetches outcomes is refused. fits b p fetches is outcomes refused
