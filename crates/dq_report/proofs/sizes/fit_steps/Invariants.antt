use Rattle.std.proofs.Common.{take}
use Rattle.std.specs.List.{AllByRecursion}
use Rattle.dq_report.specs.Told.{FitsResult}
use Rattle.dq_report.proofs.sizes.fit_steps.Given as goal

abbrev pub invariant-loop-done : goal.invariant-loop-done
invariant-loop-done l = AllByRecursion FitsResult (take l.done-index l.steps)
