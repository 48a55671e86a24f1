use Rattle.std.proofs.Common.{◌≡◌, drop}
use Rattle.dq_journal.specs.Steps.{entries_of}
use Rattle.dq_machine.specs.Order as specified
use Rattle.dq_check.proofs.order.ends_once.Given as goal

abbrev pub invariant-loop-place : goal.invariant-loop-place
invariant-loop-place l = specified.ends_once (entries_of l.lane l.journal) ≡ specified.ends_once (entries_of l.lane (drop l.place l.journal))
