use Rattle.std.proofs.Common.{codes}
use Rattle.std.proofs.lemmas.Result.{err_from_is_err_and}
use Rattle.dq_report.specs.Report.{result_text}
use Rattle.dq_parse.proofs.Steps.{result_opens}
use Rattle.dq_parse.proofs.Takings.{takes_passed, marked_takes, marked_none}
use Rattle.dq_parse.proofs.results.read_step.Goals as goal

pub returns-in_err-read_marked : goal.returns-in_err-read_marked
returns-in_err-read_marked c = takes_passed _ _ _ (err_from_is_err_and c.from_residual.result c.from_residual.ensures.1) c.in_err-read_marked.ensures (marked_none result_text (codes "step ") c.args.number result_opens)

pub returns : goal.returns
returns c = marked_takes _ _ result_text _ _ _ (codes "step ") c.args.number _ c.read_done.result c.in_ok-read_marked.ensures c.read_done.ensures
