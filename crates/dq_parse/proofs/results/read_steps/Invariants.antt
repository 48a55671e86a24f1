use Rattle.dq_report.specs.Report.{steps_text}
use Rattle.dq_parse.specs.Sizes.{IsSizedResult}
use Rattle.dq_parse.proofs.Counted.{Met}
use Rattle.dq_parse.proofs.results.read_steps.Given as goal

abbrev pub invariant-loop-before : goal.invariant-loop-before
invariant-loop-before l = Met IsSizedResult steps_text l.count l.before l.fn.left l.left l.steps
