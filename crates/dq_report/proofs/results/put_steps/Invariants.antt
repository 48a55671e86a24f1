use Rattle.std.proofs.Common.{◌≡◌, ◌++◌, ◌+◌, drop}
use Rattle.dq_report.specs.Report as form
use Rattle.dq_report.proofs.results.put_steps.Given as goal

abbrev pub invariant-loop-done : goal.invariant-loop-done
invariant-loop-done l = (l.text ++ form.steps_text l.number (drop l.done-index l.steps) ≡ l.initial.text ++ form.steps_text 1 l.steps) × (l.number ≡ l.done-index + 1)
