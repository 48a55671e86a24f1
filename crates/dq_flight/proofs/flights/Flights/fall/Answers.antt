use Rattle.std.proofs.Common.{ap, ◌∙◌}
use Rattle.dq_flight.specs.Flights.{Fallen, ascends, ended, is_numbered}
use Rattle.dq_flight.proofs.Ascent.{ascends_replaced, ended_steady}
use Rattle.dq_flight.proofs.flights.Flights.fall.Goals as goal

pub invariant_of-self : goal.invariant_of-self
invariant_of-self c = ap ascends c.end.ensures.items ∙ ascends_replaced (is_numbered c.args.number) (ended Fallen) (ended_steady Fallen) c.self.inside.flights.items c.self.invariant
