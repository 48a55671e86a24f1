use Rattle.std.proofs.Common.{◌≡◌, ◌++◌, ◌+◌, drop}
use Rattle.dq_report.specs.Report as form
use Rattle.dq_report.proofs.results.put_zones.Given as goal

abbrev pub invariant-loop-outcome : goal.invariant-loop-outcome
invariant-loop-outcome l = (l.text ++ form.zones_text l.number (drop l.outcome-index l.zones) ≡ l.initial.text ++ form.zones_text 1 l.zones) × (l.number ≡ l.outcome-index + 1)
