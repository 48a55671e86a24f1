use Rattle.dq_report.specs.Report.{zones_text}
use Rattle.dq_parse.specs.Sizes.{IsSizedZone}
use Rattle.dq_parse.proofs.Counted.{Met}
use Rattle.dq_parse.proofs.results.read_zones.Given as goal

abbrev pub invariant-loop-before : goal.invariant-loop-before
invariant-loop-before l = Met IsSizedZone zones_text l.count l.before l.fn.left l.left l.zones
