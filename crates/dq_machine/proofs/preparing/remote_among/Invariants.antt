use Rattle.std.proofs.Common.{◌≡◌, ◌++◌, map, drop}
use Rattle.std.specs.Arc.{arc_value}
use Rattle.dq_machine.specs.Preparing as specified
use Rattle.dq_machine.proofs.preparing.remote_among.Given as goal

abbrev pub invariant-loop-place : goal.invariant-loop-place
invariant-loop-place l = record {
  left : specified.remote_among l.roles l.queries ≡ l.remotes ++ specified.remote_among (drop l.place l.roles) (map arc_value (drop l.place l.q-items));
  items : map arc_value l.q-items ≡ l.queries;
}
