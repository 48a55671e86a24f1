use Rattle.dq_report.proofs.ToldWhole.{report_same}
use Rattle.dq_report.proofs.law.report_tells_all.Goals as goal

pub returns : goal.returns
returns c = λ journal other results others. report_same journal other results others
