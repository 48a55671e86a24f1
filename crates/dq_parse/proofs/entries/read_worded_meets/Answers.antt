use Rattle.std.proofs.Common.{codes, flat_map}
use Rattle.dq_report.specs.Report.{met_text}
use Rattle.dq_parse.proofs.Labels.{lead_reads}
use Rattle.dq_parse.proofs.entries.read_worded_meets.Goals as goal

pub returns : goal.returns
returns c = lead_reads _ _ (flat_map met_text) _ _ _ (codes " met") _ c.if-not-skip.ensures c.read_meets.ensures
