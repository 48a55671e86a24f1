-- What a joiner is told.
use Rattle.std.specs.Prelude.{◌≡◌, IfSome}
use Rattle.std.specs.Arc.{arc_value}
use Rattle.dq_base.specs.declared.query.Query.{Query}
use Rattle.dq_flight.specs.Flights.{Course, Running, Landed, Fallen}
use Rattle.dq_flight.specs.declared.look.Look.{Look}
use Rattle.dq_flight.specs.declared.look.Look.TheVariants as look

-- a share is of the flight's key and table; a missing one is want of memory
abbrev pub LooksAt : Course → Query → Look → Type 0
LooksAt Running key look.Running = Unit {0}
LooksAt Running key (look.Landed share) = ⊥
LooksAt Running key look.Fallen = ⊥
LooksAt (Landed rows) key look.Running = ⊥
LooksAt (Landed rows) key (look.Landed share) = IfSome share (λ both. (arc_value both.0 ≡ key) × (arc_value both.1 ≡ rows))
LooksAt (Landed rows) key look.Fallen = ⊥
LooksAt Fallen key look.Running = ⊥
LooksAt Fallen key (look.Landed share) = ⊥
LooksAt Fallen key look.Fallen = Unit {0}
