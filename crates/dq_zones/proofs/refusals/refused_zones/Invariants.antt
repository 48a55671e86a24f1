use Rattle.std.proofs.Common.{take}
use Rattle.dq_journal.specs.Steps.{AreRefused}
use Rattle.dq_zones.proofs.refusals.refused_zones.Given as goal

abbrev pub invariant-loop-q : goal.invariant-loop-q
invariant-loop-q l = AreRefused l.schemas (take l.q-index l.zones) l.outcomes
