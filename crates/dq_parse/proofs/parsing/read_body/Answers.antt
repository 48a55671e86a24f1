use Rattle.std.proofs.Common.{refl}
use Rattle.std.proofs.lemmas.Result.{err_from_is_err_and}
use Rattle.dq_parse.proofs.Takings.{takes_passed}
use Rattle.dq_parse.proofs.Wholes.{body_taken, body_first, body_second}
use Rattle.dq_parse.proofs.parsing.read_body.Goals as goal

pub returns-in_err-journal : goal.returns-in_err-journal
returns-in_err-journal c = takes_passed _ _ _ (err_from_is_err_and c.from_residual.result c.from_residual.ensures.1) c.in_err-journal.ensures body_first

pub returns-in_err-results : goal.returns-in_err-results
returns-in_err-results c = takes_passed _ _ _ (err_from_is_err_and c.from_residual-in_err-results.result c.from_residual-in_err-results.ensures.1) c.in_err-results.ensures (body_second c.in_ok-journal.ensures)

pub returns : goal.returns
returns c = body_taken _ refl refl c.in_ok-journal.ensures c.in_ok-results.ensures
