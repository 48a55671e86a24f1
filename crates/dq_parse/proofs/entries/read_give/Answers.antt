use Rattle.std.proofs.lemmas.Result.{err_from_is_err_and}
use Rattle.dq_reading.proofs.Readings.{passed_on}
use Rattle.dq_parse.proofs.Events.{give_read, give_first, give_second}
use Rattle.dq_parse.proofs.entries.read_give.Goals as goal

pub returns-in_err-lane : goal.returns-in_err-lane
returns-in_err-lane c = passed_on _ _ _ (err_from_is_err_and c.from_residual.result c.from_residual.ensures.1) c.in_err-lane.ensures give_first

pub returns-in_err-ran : goal.returns-in_err-ran
returns-in_err-ran c = passed_on _ _ _ (err_from_is_err_and c.from_residual-in_err-ran.result c.from_residual-in_err-ran.ensures.1) c.in_err-ran.ensures (give_second c.in_ok-lane.ensures)

pub returns : goal.returns
returns c = give_read c.in_ok-lane.ensures c.in_ok-ran.ensures
