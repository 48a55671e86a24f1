use Rattle.std.proofs.Common.{take}
use Rattle.std.specs.List.{AllByRecursion}
use Rattle.dq_report.specs.Told.{FitsEntry}
use Rattle.dq_report.proofs.sizes.fit_entries.Given as goal

abbrev pub invariant-loop-entry : goal.invariant-loop-entry
invariant-loop-entry l = AllByRecursion FitsEntry (take l.entry-index l.entries)
