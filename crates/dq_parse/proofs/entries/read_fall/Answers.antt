use Rattle.std.proofs.lemmas.Result.{err_from_is_err_and}
use Rattle.dq_reading.proofs.Readings.{passed_on}
use Rattle.dq_parse.proofs.Events.{fall_read, fall_first, fall_second}
use Rattle.dq_parse.proofs.entries.read_fall.Goals as goal

pub returns-in_err-lane : goal.returns-in_err-lane
returns-in_err-lane c = passed_on _ _ _ (err_from_is_err_and c.from_residual.result c.from_residual.ensures.1) c.in_err-lane.ensures fall_first

pub returns-in_err-cause : goal.returns-in_err-cause
returns-in_err-cause c = passed_on _ _ _ (err_from_is_err_and c.from_residual-in_err-cause.result c.from_residual-in_err-cause.ensures.1) c.in_err-cause.ensures (fall_second c.in_ok-lane.ensures)

pub returns : goal.returns
returns c = fall_read c.in_ok-lane.ensures c.in_ok-cause.ensures
