use Rattle.std.proofs.Common.{arith}
use Rattle.std.proofs.lemmas.Result.{err_from_is_err_and}
use Rattle.dq_parse.proofs.Counted.{begins, goes_on, breaks_off, ends}
use Rattle.dq_parse.proofs.Tables.{rows_list}
use Rattle.dq_parse.proofs.Takings.{read_taken, takes_passed}
use Rattle.dq_parse.proofs.cells.read_rows.Goals as goal

pub loop-place-init : goal.loop-place-init
loop-place-init c = begins c.args.count c.args.left.now _ rows_list c.new-rows.ensures

pub returns-in_err-row : goal.returns-in_err-row
returns-in_err-row c = takes_passed _ _ _ (err_from_is_err_and c.from_residual.result c.from_residual.ensures.1) c.in_err-row.ensures (breaks_off rows_list c.loop-place-test.true c.loop-place.invariant)

pub loop-place-preserved : goal.loop-place-preserved
loop-place-preserved c = goes_on rows_list c.loop-place-test.true c.loop-place.invariant (read_taken c.in_ok-row.ensures) c.in_ok-push.ensures.ok

pub returns : goal.returns
returns c = ends rows_list (omega arith) c.loop-place.invariant
