use Rattle.dq_flight.specs.Flights.{fits}
use Rattle.dq_flight.proofs.Ascent.{lowest}
use Rattle.dq_flight.proofs.flights.Flights.find.Goals as goal

pub returns-clause-lowest : goal.returns-clause-lowest
returns-clause-lowest c = rw (c.first_fit.ensures, c.as_slice.ensures.value, ← c.self.view_is) (lowest (fits c.args.stamp c.args.q.now) c.self.inside.flights.items c.self.invariant)
