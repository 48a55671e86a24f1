use Rattle.dq_report.specs.Report.{entries_text}
use Rattle.dq_parse.specs.Reading.{IsShown}
use Rattle.dq_parse.proofs.Counted.{Met}
use Rattle.dq_parse.proofs.entries.read_journal.Given as goal

abbrev pub invariant-loop-before : goal.invariant-loop-before
invariant-loop-before l = Met IsShown entries_text l.count l.before l.fn.left l.left l.journal.entries
