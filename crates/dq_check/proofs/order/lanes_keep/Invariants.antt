use Rattle.std.proofs.Common.{◌≡◌, ◌+◌, drop}
use Rattle.dq_machine.specs.Order as specified
use Rattle.dq_check.proofs.order.lanes_keep.Given as goal

abbrev pub invariant-loop-place : goal.invariant-loop-place
invariant-loop-place l = specified.lanes_keep l.journal 1 l.lanes l.told ≡ specified.lanes_keep l.journal (l.place + 1) (drop l.place l.lanes) (drop l.place l.told)
