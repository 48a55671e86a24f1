use Rattle.dq_report.specs.Report.{lanes_text}
use Rattle.dq_parse.specs.Sizes.{IsSizedLane}
use Rattle.dq_parse.proofs.Counted.{Met}
use Rattle.dq_parse.proofs.results.read_lanes.Given as goal

abbrev pub invariant-loop-before : goal.invariant-loop-before
invariant-loop-before l = Met IsSizedLane lanes_text l.count l.before l.fn.left l.left l.lanes
