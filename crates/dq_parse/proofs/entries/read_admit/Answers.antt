use Rattle.std.proofs.lemmas.Result.{err_from_is_err_and}
use Rattle.dq_reading.proofs.Readings.{passed_on}
use Rattle.dq_parse.proofs.Events.{admit_read, admit_first, admit_second}
use Rattle.dq_parse.proofs.entries.read_admit.Goals as goal

pub returns-in_err-lane : goal.returns-in_err-lane
returns-in_err-lane c = passed_on _ _ _ (err_from_is_err_and c.from_residual.result c.from_residual.ensures.1) c.in_err-lane.ensures admit_first

pub returns-in_err-met : goal.returns-in_err-met
returns-in_err-met c = passed_on _ _ _ (err_from_is_err_and c.from_residual-in_err-met.result c.from_residual-in_err-met.ensures.1) c.in_err-met.ensures (admit_second c.in_ok-lane.ensures)

pub returns : goal.returns
returns c = admit_read c.in_ok-lane.ensures c.in_ok-met.ensures
