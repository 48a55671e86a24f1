use Rattle.dq_cover.proofs.CoverLaws.{covers_refl}
use Rattle.dq_cover.proofs.laws.covering_is_reflexive.Goals as goal

pub returns : goal.returns
returns c = covers_refl
