use Rattle.std.proofs.Common.{codes}
use Rattle.std.proofs.lemmas.Result.{err_from_is_err_and}
use Rattle.dq_report.specs.Report.{outcome_text}
use Rattle.dq_parse.proofs.Outcomes.{outcome_opens}
use Rattle.dq_parse.proofs.Takings.{takes_passed, marked_takes, marked_none}
use Rattle.dq_parse.proofs.results.read_zone.Goals as goal

pub returns-in_err-read_marked : goal.returns-in_err-read_marked
returns-in_err-read_marked c = takes_passed _ _ _ (err_from_is_err_and c.from_residual.result c.from_residual.ensures.1) c.in_err-read_marked.ensures (marked_none outcome_text (codes "zone ") c.args.number outcome_opens)

pub returns : goal.returns
returns c = marked_takes _ _ outcome_text _ _ _ (codes "zone ") c.args.number _ c.read_outcome.result c.in_ok-read_marked.ensures c.read_outcome.ensures
