use Rattle.dq_shield.proofs.Unseen.{answer_hides}
use Rattle.dq_shield.proofs.laws.filters_hide_the_rest.Goals as goal

pub returns : goal.returns
returns c = answer_hides
