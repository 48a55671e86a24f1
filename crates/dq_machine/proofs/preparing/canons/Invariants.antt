use Rattle.std.proofs.Common.{◌≡◌, ◌++◌, drop}
use Rattle.dq_machine.specs.Preparing.{canons_of}
use Rattle.dq_machine.proofs.preparing.canons.Given as goal

abbrev pub invariant-loop-q : goal.invariant-loop-q
invariant-loop-q l = canons_of l.schemas l.zones ≡ l.canons ++ canons_of l.schemas (drop l.q-index l.zones)
