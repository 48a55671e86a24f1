-- What a Take entry does.
use Rattle.std.specs.Prelude.{ℕ, ◌+◌, ◌-◌, Bool, true, false, ◌&&◌, nat_eq, List, [], ◌∷◌, ◌++◌, drop, Option, Some, None, if◌then◌else◌}
use Rattle.dq_flight.specs.Flights.{replaced}
use Rattle.dq_machine.specs.Admitting.{runs, taking_off}
use Rattle.dq_machine.specs.State.{Course, Running, Landed, Fallen, Flown, Flights, Joined, New, State, Work, flight_at, is_numbered, none_left}

-- the flight is the first join that is left
abbrev pub is_first_join : List Joined → ℕ → Bool
is_first_join [] flight = false
is_first_join (j ∷ joins) flight = nat_eq j.flight flight

-- a landed flight's answer is taken; in place of a fallen one the next flight starts
abbrev pub takes_course : ℕ → Course → Option ℕ → Bool
takes_course started Running next = false
takes_course started Landed None = true
takes_course started Landed (Some n) = false
takes_course started Fallen None = false
takes_course started Fallen (Some n) = nat_eq n (started + 1)

abbrev pub takes_as : ℕ → Option Flown → Option ℕ → Bool
takes_as started None next = false
takes_as started (Some f) next = takes_course started f.course next

abbrev pub may_take : State → Work → ℕ → Option ℕ → Bool
may_take s w flight next = none_left w.own && is_first_join w.joins flight && takes_as s.flights.started (flight_at s flight) next

-- one joiner less; a flight for which nobody waits is gone
abbrev pub without_joiner : Flown → List Flown
without_joiner f = if nat_eq (f.joiners - 1) 0 then [] else record f { joiners = f.joiners - 1 } ∷ []

abbrev pub let_go : ℕ → List Flown → List Flown
let_go flight flown = replaced (is_numbered flight) without_joiner flown

-- the zone's own query at its stamp
abbrev pub own_flight : ℕ → ℕ → List Joined → List Flown
own_flight number lane [] = []
own_flight number lane (j ∷ joins) = taking_off number lane j.stamp j.query ∷ []

abbrev pub flights_taken : Flights → ℕ → ℕ → List Joined → Option ℕ → Flights
flights_taken flights lane flight joins None = record flights { flown = let_go flight flights.flown }
flights_taken flights lane flight joins (Some n) = record { flown = let_go flight flights.flown ++ own_flight n lane joins; started = n }

abbrev pub work_taken : Work → Option ℕ → Work
work_taken w None = record w { joins = drop 1 w.joins }
work_taken w (Some n) = record w { own = n ∷ []; joins = drop 1 w.joins; phase = New 0 }

abbrev pub waits_for : Option Flown → Bool
waits_for None = false
waits_for (Some f) = runs f.course

abbrev pub waits_at : State → List Joined → Bool
waits_at s [] = false
waits_at s (j ∷ joins) = waits_for (flight_at s j.flight)

-- the lane has nothing to do but to wait for another lane's flight
abbrev pub waits : State → Work → Bool
waits s w = none_left w.own && waits_at s w.joins
