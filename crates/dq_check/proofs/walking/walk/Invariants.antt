use Rattle.std.proofs.Common.{◌≡◌, ◌+◌, ◌++◌, drop}
use Rattle.std.specs.Arc.{arc_value}
use Rattle.dq_machine.specs.Machine.{legal_from, run}
use Rattle.dq_machine.specs.State.{start}
use Rattle.dq_check.specs.Verdicts.{first_illegal}
use Rattle.dq_check.specs.Walks.{stamps_from}
use Rattle.dq_check.proofs.walking.walk.Given as goal

abbrev pub invariant-loop-place : goal.invariant-loop-place
invariant-loop-place l = record {
  loaded : l.machine.loaded ≡ arc_value l.loaded;
  first : first_illegal (arc_value l.loaded) (start (arc_value l.loaded)) 1 l.journal ≡ first_illegal (arc_value l.loaded) l.machine.state (l.place + 1) (drop l.place l.journal);
  legal : legal_from (arc_value l.loaded) (start (arc_value l.loaded)) l.journal ≡ legal_from (arc_value l.loaded) l.machine.state (drop l.place l.journal);
  run : run (arc_value l.loaded) (start (arc_value l.loaded)) l.journal ≡ run (arc_value l.loaded) l.machine.state (drop l.place l.journal);
  stamps : stamps_from (arc_value l.loaded) (start (arc_value l.loaded)) l.journal ≡ l.stamps ++ stamps_from (arc_value l.loaded) l.machine.state (drop l.place l.journal);
}
