use Rattle.std.proofs.Common.{ap, ◌∙◌}
use Rattle.dq_flight.specs.Flights.{ascends}
use Rattle.dq_flight.proofs.Ascent.{ascends_end}
use Rattle.dq_flight.proofs.flights.Flights.start.Goals as goal

pub invariant_of-self : goal.invariant_of-self
invariant_of-self c =
    let xs = c.self.inside.flights.items in
    ap ascends c.push_reserved.ensures.items ∙ ascends_end xs c.new-flight.result c.self.invariant
    (rw c.new-flight.ensures (rw (← c.self.view_is) at c.requires.above))
