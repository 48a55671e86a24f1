use Rattle.std.proofs.Common.{◌≡◌, ◌+◌, ◌++◌, true, drop, length, map}
use Rattle.dq_machine.specs.Machine.{legal}
use Rattle.dq_rehearse.specs.Follows.{places_told}
use Rattle.dq_rehearse.specs.Lanes.{places_in}
use Rattle.dq_rehearse.proofs.Results.{AreResultsOf, HaveDialled, HavePlans}
use Rattle.dq_rehearse.proofs.gathering.gather.Given as goal

abbrev pub invariant-loop-lane : goal.invariant-loop-lane
invariant-loop-lane g l = record {
  legal : legal l.desk.loaded l.desk.journal ≡ true;
  right : AreResultsOf l.desk.loaded l.desk.journal 1 l.results;
  rest : l.lane-iterator.rest.items ≡ drop (length l.results) l.fn.lanes.items;
  count : length l.results + length l.lane-iterator.rest.items ≡ length l.fn.lanes.items;
  places : places_told l.results ++ map places_in l.lane-iterator.rest.items ≡ map places_in l.fn.lanes.items;
  as_many : length l.dialers ≡ length l.results;
  dials : HaveDialled l.desk.loaded l.desk.journal 1 (map (λ d. g.D.Dialer.faults d) l.dialers);
  plans : HavePlans l.desk.loaded 1 (map (λ d. g.D.Dialer.plan d) l.dialers);
}
