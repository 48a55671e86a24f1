use Rattle.std.proofs.Common.{◌≡◌, ◌^◌, drop, length}
use Rattle.dq_machine.specs.Admitting.{joined_by}
use Rattle.dq_machine.proofs.Joining.{AreFew}
use Rattle.dq_machine.proofs.flights.join_all.Given as goal

abbrev pub invariant-loop-one : goal.invariant-loop-one
invariant-loop-one l = (joined_by l.initial.flown l.joins ≡ joined_by l.flown (drop l.one-index l.joins)) × AreFew (2 ^ 64) (length (drop l.one-index l.joins)) l.flown
