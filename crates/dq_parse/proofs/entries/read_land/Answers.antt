use Rattle.std.proofs.lemmas.Result.{err_from_is_err_and}
use Rattle.dq_reading.proofs.Readings.{passed_on}
use Rattle.dq_parse.proofs.Events.{land_read, land_first, land_second}
use Rattle.dq_parse.proofs.entries.read_land.Goals as goal

pub returns-in_err-lane : goal.returns-in_err-lane
returns-in_err-lane c = passed_on _ _ _ (err_from_is_err_and c.from_residual.result c.from_residual.ensures.1) c.in_err-lane.ensures land_first

pub returns-in_err-clever : goal.returns-in_err-clever
returns-in_err-clever c = passed_on _ _ _ (err_from_is_err_and c.from_residual-in_err-clever.result c.from_residual-in_err-clever.ensures.1) c.in_err-clever.ensures (land_second c.in_ok-lane.ensures)

pub returns : goal.returns
returns c = land_read c.in_ok-lane.ensures c.in_ok-clever.ensures
