use Rattle.dq_shield.proofs.Unseen.{nothing_changes}
use Rattle.dq_shield.proofs.laws.hidden_rows_change_nothing.Goals as goal

pub returns : goal.returns
returns c = nothing_changes
