use Rattle.std.proofs.Common.{sym, ◌∙◌}
use Rattle.std.proofs.lemmas.Result.{err_from_is_err_and}
use Rattle.dq_reading.proofs.Readings.{passed_on}
use Rattle.dq_parse.proofs.OfFlights.{lost_read, lost_none}
use Rattle.dq_parse.proofs.flights.read_lost.Goals as goal

pub returns-in_err-ran : goal.returns-in_err-ran
returns-in_err-ran c = passed_on _ _ _ (err_from_is_err_and c.from_residual.result c.from_residual.ensures.1) c.in_err-ran.ensures (lost_none (sym c.if-skip.ensures.0 ∙ c.if-not-skip.ensures))

pub returns : goal.returns
returns c = lost_read (sym c.if-skip.ensures.0 ∙ c.if-not-skip.ensures) c.in_ok-ran.ensures
