use Rattle.dq_cover.proofs.CoverLaws.{covers_trans}
use Rattle.dq_cover.proofs.laws.covering_is_transitive.Goals as goal

pub returns : goal.returns
returns c = covers_trans
