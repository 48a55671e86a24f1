use Rattle.std.proofs.Common.{ap, ◌∙◌}
use Rattle.dq_flight.specs.Flights.{ascends, is_numbered, joined}
use Rattle.dq_flight.proofs.Ascent.{ascends_replaced, joined_steady}
use Rattle.dq_flight.proofs.flights.Flights.join.Goals as goal

pub invariant_of-self : goal.invariant_of-self
invariant_of-self c = ap ascends c.wait.ensures.items ∙ ascends_replaced (is_numbered c.args.number) joined joined_steady c.self.inside.flights.items c.self.invariant
