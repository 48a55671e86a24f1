use Rattle.std.proofs.Common.{◌≡◌, ◌+◌, ◌++◌, drop}
use Rattle.dq_script.specs.Scripts.{fails_from}
use Rattle.dq_script.proofs.making.make_fails.Given as goal

abbrev pub invariant-loop-place : goal.invariant-loop-place
invariant-loop-place l = fails_from l.faults 1 l.lanes ≡ l.fails ++ fails_from l.faults (l.place + 1) (drop l.place l.lanes)
