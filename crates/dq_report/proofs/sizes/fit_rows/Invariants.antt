use Rattle.std.proofs.Common.{take}
use Rattle.std.specs.List.{AllByRecursion}
use Rattle.dq_report.specs.Told.{FitsCell}
use Rattle.dq_report.proofs.sizes.fit_rows.Given as goal

abbrev pub invariant-loop-row : goal.invariant-loop-row
invariant-loop-row l = AllByRecursion (AllByRecursion FitsCell) (take l.row-index l.rows)
