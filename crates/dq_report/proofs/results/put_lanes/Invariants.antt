use Rattle.std.proofs.Common.{◌≡◌, ◌++◌, ◌+◌, drop}
use Rattle.dq_report.specs.Report as form
use Rattle.dq_report.proofs.results.put_lanes.Given as goal

abbrev pub invariant-loop-steps : goal.invariant-loop-steps
invariant-loop-steps l = (l.text ++ form.lanes_text l.number (drop l.steps-index l.lanes) ≡ l.initial.text ++ form.lanes_text 1 l.lanes) × (l.number ≡ l.steps-index + 1)
