use Rattle.std.proofs.Common.{codes, refl}
use Rattle.std.proofs.lemmas.Result.{err_from_is_err_and}
use Rattle.dq_reading.proofs.Readings.{passed_on}
use Rattle.dq_parse.proofs.OfFlights.{of_read, of_first_none, of_second_none}
use Rattle.dq_parse.proofs.flights.read_link.Goals as goal

pub returns-in_err-lane : goal.returns-in_err-lane
returns-in_err-lane c = passed_on _ _ _ (err_from_is_err_and c.from_residual.result c.from_residual.ensures.1) c.in_err-lane.ensures (of_first_none (codes " link ") (λ m r. refl))

pub returns-in_err-link : goal.returns-in_err-link
returns-in_err-link c = passed_on _ _ _ (err_from_is_err_and c.from_residual-in_err-link.result c.from_residual-in_err-link.ensures.1) c.in_err-link.ensures (of_second_none (codes " link ") (λ m r. refl) c.in_ok-lane.ensures)

pub returns : goal.returns
returns c = of_read (codes " link ") (λ m r. refl) c.in_ok-lane.ensures c.in_ok-link.ensures
