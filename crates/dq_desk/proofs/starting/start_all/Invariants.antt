use Rattle.std.proofs.Common.{◌≡◌, ◌+◌, ◌≤◌, ◌++◌, true, map, length}
use Rattle.std.specs.Arc.{arc_value}
use Rattle.std.specs.List.{AllByRecursion, list_all}
use Rattle.std.specs.Prelude.{nat_lt}
use Rattle.std.specs.Vec.Iter.{into_iter_items, into_iter_len}
use Rattle.dq_flight.specs.Flights.{FlightOf}
use Rattle.dq_text.specs.Sizes.{IsSizedQuery}
use Rattle.dq_desk.specs.Plans.{started_flights}
use Rattle.dq_desk.proofs.starting.start_all.Given as goal

abbrev pub invariant-loop-key : goal.invariant-loop-key
invariant-loop-key l = record {
  flights : l.flights.flights ++ started_flights l.stamps l.lane l.number (map arc_value (into_iter_items l.key-iterator))
      ≡ l.initial.flights.flights ++ started_flights l.stamps l.lane l.first (map arc_value (into_iter_items l.initial.key-iterator));
  items : l.yielded ++ into_iter_items l.key-iterator ≡ into_iter_items l.initial.key-iterator;
  number : l.number + length (into_iter_items l.key-iterator) ≡ l.first + length (into_iter_items l.initial.key-iterator);
  room : l.initial.flights.spare + length (into_iter_items l.key-iterator) ≤ l.flights.spare + length (into_iter_items l.initial.key-iterator);
  above : list_all (λ (f : FlightOf). nat_lt f.number l.number) l.flights.flights ≡ true;
  sized : AllByRecursion IsSizedQuery (map arc_value l.yielded);
  len : into_iter_len l.key-iterator ≡ length (into_iter_items l.key-iterator);
}
