-- What parsing a report answers.
use Rattle.std.specs.Prelude.{◌≡◌, List, Result, Ok, Err}
use Rattle.dq_base.specs.Spelling.{Bytes}
use Rattle.dq_journal.specs.declared.entry.Entry.{Entry}
use Rattle.dq_journal.specs.declared.result.StepResult.{StepResult}
use Rattle.dq_parse.specs.Sizes.{IsSized}
use Rattle.dq_parse.specs.declared.fault.ParseFault.{ParseFault}
use Rattle.dq_parse.specs.declared.fault.ParseFault.TheVariants as fault
use Rattle.dq_parse.specs.declared.parsed.Parsed.{Parsed}
use Rattle.dq_report.specs.Report.{report_text}

-- refused exactly where no journal and results have that report
abbrev pub RefusedAs : Bytes → ParseFault → Type 0
RefusedAs bytes fault.NotReport = (journal : List Entry) (results : List (List StepResult)) → IsSized journal results → report_text journal results ≡ bytes → ⊥
RefusedAs bytes fault.Memory = Unit {0}

-- the journal and the results that have that report
abbrev pub ParsedAs : Bytes → Result Parsed ParseFault → Type 0
ParsedAs bytes (Ok p) = IsSized p.journal.entries p.results × (report_text p.journal.entries p.results ≡ bytes)
ParsedAs bytes (Err e) = RefusedAs bytes e
