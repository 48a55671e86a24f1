use Rattle.std.proofs.Common.{codes, arith}
use Rattle.std.proofs.lemmas.Result.{err_from_is_err_and}
use Rattle.dq_report.specs.Report.{counted_line}
use Rattle.dq_parse.proofs.Counted.{count_none, counted_takes}
use Rattle.dq_parse.proofs.Steps.{steps_list}
use Rattle.dq_parse.proofs.Takings.{takes_passed}
use Rattle.dq_parse.proofs.results.read_counted_steps.Goals as goal

pub returns-in_err-count : goal.returns-in_err-count
returns-in_err-count c = takes_passed _ _ _ (err_from_is_err_and c.from_residual.result c.from_residual.ensures.1) c.in_err-count.ensures (count_none (counted_line (codes " steps ")) c.args.left.now steps_list (omega arith))

pub returns : goal.returns
returns c = counted_takes (counted_line (codes " steps ")) c.args.left.now _ _ _ c.read_steps.result steps_list (omega arith) c.in_ok-count.ensures c.read_steps.ensures
