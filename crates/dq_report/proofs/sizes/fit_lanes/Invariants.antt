use Rattle.std.proofs.Common.{take}
use Rattle.std.specs.List.{AllByRecursion}
use Rattle.dq_report.specs.Told.{FitsList, FitsResult}
use Rattle.dq_report.proofs.sizes.fit_lanes.Given as goal

abbrev pub invariant-loop-results : goal.invariant-loop-results
invariant-loop-results l = AllByRecursion (FitsList FitsResult) (take l.results-index l.lanes)
