use Rattle.std.proofs.lemmas.Result.{err_from_is_err_and}
use Rattle.dq_reading.proofs.Readings.{passed_on}
use Rattle.dq_parse.proofs.Events.{take_read, take_first, take_second}
use Rattle.dq_parse.proofs.entries.read_take.Goals as goal

pub returns-in_err-lane : goal.returns-in_err-lane
returns-in_err-lane c = passed_on _ _ _ (err_from_is_err_and c.from_residual.result c.from_residual.ensures.1) c.in_err-lane.ensures take_first

pub returns-in_err-next : goal.returns-in_err-next
returns-in_err-next c = passed_on _ _ _ (err_from_is_err_and c.from_residual-in_err-next.result c.from_residual-in_err-next.ensures.1) c.in_err-next.ensures (take_second c.in_ok-lane.ensures)

pub returns : goal.returns
returns c = take_read c.in_ok-lane.ensures c.in_ok-next.ensures
