use Rattle.dq_link.proofs.OneMeaning.{one_meaning}
use Rattle.dq_link.proofs.law.text_means_one_table.Goals as goal

pub returns : goal.returns
returns c = one_meaning
