use Rattle.std.proofs.Common.{take}
use Rattle.std.specs.List.{AllByRecursion}
use Rattle.dq_report.specs.Told.{FitsMet}
use Rattle.dq_report.proofs.sizes.fit_meets.Given as goal

abbrev pub invariant-loop-met : goal.invariant-loop-met
invariant-loop-met l = AllByRecursion FitsMet (take l.met-index l.meets)
