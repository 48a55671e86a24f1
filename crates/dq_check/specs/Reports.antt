-- Which verdict a report's bytes have.
use Rattle.std.specs.Prelude.{◌≡◌, ℕ, List, Result, Ok, Err}
use Rattle.dq_extract.specs.Loads.{LoadedFiles}
use Rattle.dq_journal.specs.declared.entry.Entry.{Entry}
use Rattle.dq_journal.specs.declared.result.StepResult.{StepResult}
use Rattle.dq_parse.specs.Sizes.{IsSized}
use Rattle.dq_report.specs.Report.{report_text}
use Rattle.dq_check.specs.Verdicts.{IsVerdict}
use Rattle.dq_check.specs.declared.verdict.Verdict.{Verdict}
use Rattle.dq_check.specs.declared.verdict.Verdict.TheVariants.{Lawful, NotReport, Disorder, Illegal, Wrong}

-- the bytes are the report on this journal and what is shown
pub record IsReport (bytes : List ℕ) (journal : List Entry) (shown : List (List StepResult)) : Type 0 where
  pub sized : IsSized journal shown
  pub text : report_text journal shown ≡ bytes

-- they are the report on some journal, which has this verdict
pub record IsJudged (l : LoadedFiles) (bytes : List ℕ) (verdict : Verdict) : Type 0 where
  pub journal : List Entry
  pub shown : List (List StepResult)
  pub report : IsReport bytes journal shown
  pub is : IsVerdict l journal shown verdict

-- the verdict on bytes: they are no report, or that on the report that they are
abbrev pub Judged : LoadedFiles → List ℕ → Verdict → Type 0
Judged l bytes NotReport = (journal : List Entry) (shown : List (List StepResult)) → IsReport bytes journal shown → ⊥
Judged l bytes Disorder = IsJudged l bytes Disorder
Judged l bytes (Illegal place) = IsJudged l bytes (Illegal place)
Judged l bytes (Wrong lane step zone) = IsJudged l bytes (Wrong lane step zone)
Judged l bytes Lawful = IsJudged l bytes Lawful
