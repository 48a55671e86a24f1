use Rattle.std.proofs.Common.{◌≡◌, ◌++◌, map, drop}
use Rattle.std.specs.Arc.{arc_value}
use Rattle.dq_machine.specs.Admitting as specified
use Rattle.dq_machine.proofs.meeting.missed.Given as goal

abbrev pub invariant-loop-place : goal.invariant-loop-place
invariant-loop-place l = record {
  left : specified.missed l.found l.queries ≡ l.misses ++ specified.missed (drop l.place l.found) (map arc_value (drop l.place l.q-items));
  items : map arc_value l.q-items ≡ l.queries;
}
