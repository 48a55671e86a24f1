use Rattle.std.proofs.lemmas.Result.{err_from_is_err_and}
use Rattle.dq_reading.proofs.Readings.{passed_on}
use Rattle.dq_parse.proofs.Events.{lease_read, lease_first, lease_second}
use Rattle.dq_parse.proofs.entries.read_lease.Goals as goal

pub returns-in_err-lane : goal.returns-in_err-lane
returns-in_err-lane c = passed_on _ _ _ (err_from_is_err_and c.from_residual.result c.from_residual.ensures.1) c.in_err-lane.ensures lease_first

pub returns-in_err-fresh : goal.returns-in_err-fresh
returns-in_err-fresh c = passed_on _ _ _ (err_from_is_err_and c.from_residual-in_err-fresh.result c.from_residual-in_err-fresh.ensures.1) c.in_err-fresh.ensures (lease_second c.in_ok-lane.ensures)

pub returns : goal.returns
returns c = lease_read c.in_ok-lane.ensures c.in_ok-fresh.ensures
