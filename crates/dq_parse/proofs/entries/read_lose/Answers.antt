use Rattle.std.proofs.lemmas.Result.{err_from_is_err_and}
use Rattle.dq_reading.proofs.Readings.{passed_on}
use Rattle.dq_parse.proofs.Events.{lose_read, lose_first, lose_second}
use Rattle.dq_parse.proofs.entries.read_lose.Goals as goal

pub returns-in_err-lane : goal.returns-in_err-lane
returns-in_err-lane c = passed_on _ _ _ (err_from_is_err_and c.from_residual.result c.from_residual.ensures.1) c.in_err-lane.ensures lose_first

pub returns-in_err-dialled : goal.returns-in_err-dialled
returns-in_err-dialled c = passed_on _ _ _ (err_from_is_err_and c.from_residual-in_err-dialled.result c.from_residual-in_err-dialled.ensures.1) c.in_err-dialled.ensures (lose_second c.in_ok-lane.ensures)

pub returns : goal.returns
returns c = lose_read c.in_ok-lane.ensures c.in_ok-dialled.ensures
