-- What a flight's state means.
use Rattle.std.specs.Arc.{arc_value}
use Rattle.dq_flight.specs.Flights.{Course, Running, Landed, Fallen}
use Rattle.dq_flight.specs.declared.flight.State.{State}
use Rattle.dq_flight.specs.declared.flight.State.TheVariants as state

abbrev pub course_of : State → Course
course_of state.Running = Running
course_of (state.Landed table) = Landed (arc_value table)
course_of state.Fallen = Fallen
