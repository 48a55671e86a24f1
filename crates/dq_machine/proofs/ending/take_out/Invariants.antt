use Rattle.std.proofs.Common.{◌≡◌, ◌≤◌, ◌+◌, length, remove}
use Rattle.dq_machine.proofs.ending.take_out.Given as goal

abbrev pub invariant-loop-i : goal.invariant-loop-i
invariant-loop-i l = (remove l.flown l.i ≡ remove l.initial.flown l.place) × (length l.flown ≡ l.last + 1)
