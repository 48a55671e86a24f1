use Rattle.dq_parse.proofs.Labels.{lead_reads}
use Rattle.dq_parse.proofs.words.read_labelled.Goals as goal

pub returns : goal.returns
returns c = lead_reads _ _ _ _ _ _ _ _ c.if-not-skip.ensures c.read_u64.ensures
