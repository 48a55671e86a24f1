use Rattle.std.proofs.Common.{sym, ap, subst}
use Rattle.std.specs.List.{AllByRecursion}
use Rattle.std.proofs.lemmas.Result.{err_from_is_err_and}
use Rattle.dq_report.specs.Report.{table_text}
use Rattle.dq_parse.specs.Sizes.{IsSizedRow}
use Rattle.dq_parse.proofs.Outcomes.{answer_taken, answer_none}
use Rattle.dq_parse.proofs.Takings.{takes_passed}
use Rattle.dq_parse.proofs.results.read_answer.Goals as goal

pub returns-in_err-table : goal.returns-in_err-table
returns-in_err-table c = takes_passed _ _ _ (err_from_is_err_and c.from_residual.result c.from_residual.ensures.1) c.in_err-table.ensures answer_none

pub returns : goal.returns
returns c = answer_taken _ c.in_ok-table.ensures (subst (AllByRecursion IsSizedRow) (sym c.in_ok-shared.ensures) c.in_ok-table.ensures.sized) (ap table_text c.in_ok-shared.ensures)
