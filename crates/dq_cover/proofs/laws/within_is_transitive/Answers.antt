use Rattle.dq_cover.proofs.CoverLaws.{within_trans}
use Rattle.dq_cover.proofs.laws.within_is_transitive.Goals as goal

pub returns : goal.returns
returns c = within_trans
