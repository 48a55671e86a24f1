use Rattle.std.proofs.Common.{codes, refl}
use Rattle.std.proofs.lemmas.Result.{err_from_is_err_and}
use Rattle.dq_reading.proofs.Readings.{passed_on}
use Rattle.dq_parse.proofs.OfFlights.{of_read, of_first_none, of_second_none}
use Rattle.dq_parse.proofs.flights.read_size.Goals as goal

pub returns-in_err-lane : goal.returns-in_err-lane
returns-in_err-lane c = passed_on _ _ _ (err_from_is_err_and c.from_residual.result c.from_residual.ensures.1) c.in_err-lane.ensures (of_first_none (codes " cells ") (λ m r. refl))

pub returns-in_err-cells : goal.returns-in_err-cells
returns-in_err-cells c = passed_on _ _ _ (err_from_is_err_and c.from_residual-in_err-cells.result c.from_residual-in_err-cells.ensures.1) c.in_err-cells.ensures (of_second_none (codes " cells ") (λ m r. refl) c.in_ok-lane.ensures)

pub returns : goal.returns
returns c = of_read (codes " cells ") (λ m r. refl) c.in_ok-lane.ensures c.in_ok-cells.ensures
