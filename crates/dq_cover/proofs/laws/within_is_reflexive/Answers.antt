use Rattle.dq_cover.proofs.CoverLaws.{within_refl}
use Rattle.dq_cover.proofs.laws.within_is_reflexive.Goals as goal

pub returns : goal.returns
returns c = within_refl
