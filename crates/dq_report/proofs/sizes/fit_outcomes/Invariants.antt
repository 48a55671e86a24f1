use Rattle.std.proofs.Common.{take}
use Rattle.std.specs.List.{AllByRecursion}
use Rattle.dq_report.specs.Told.{FitsZone}
use Rattle.dq_report.proofs.sizes.fit_outcomes.Given as goal

abbrev pub invariant-loop-outcome : goal.invariant-loop-outcome
invariant-loop-outcome l = AllByRecursion FitsZone (take l.outcome-index l.outcomes)
