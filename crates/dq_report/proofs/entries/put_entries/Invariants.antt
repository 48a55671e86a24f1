use Rattle.std.proofs.Common.{◌≡◌, ◌++◌, ◌+◌, drop}
use Rattle.dq_report.specs.Report as form
use Rattle.dq_report.proofs.entries.put_entries.Given as goal

abbrev pub invariant-loop-entry : goal.invariant-loop-entry
invariant-loop-entry l = (l.text ++ form.entries_text l.place (drop l.entry-index l.entries) ≡ l.initial.text ++ form.entries_text 1 l.entries) × (l.place ≡ l.entry-index + 1)
