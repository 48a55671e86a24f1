-- The sizes that the types of a report's parts keep: no more and no less.
use Rattle.std.specs.Prelude.{List}
use Rattle.std.specs.List.{AllByRecursion}
use Rattle.std.specs.Arc.{arc_value}
use Rattle.dq_base.specs.Ratios.{IsRatio, count_of}
use Rattle.dq_base.specs.Sizes.{Fits, IsByte}
use Rattle.dq_base.specs.declared.cell.Cell.{Cell}
use Rattle.dq_base.specs.declared.cell.Cell.TheVariants as cell
use Rattle.dq_journal.specs.Journals.{AreEntries}
use Rattle.dq_journal.specs.declared.entry.Entry.{Entry}
use Rattle.dq_journal.specs.declared.entry.Entry.TheVariants.{Publish, Admit, Lease, Give, Lose, Land, Fall, Take, End}
use Rattle.dq_journal.specs.declared.result.ZoneResult.{ZoneResult}
use Rattle.dq_journal.specs.declared.result.ZoneResult.TheVariants as zone
use Rattle.dq_journal.specs.declared.result.StepResult.{StepResult}
use Rattle.dq_journal.specs.declared.result.StepResult.TheVariants as step
use Rattle.dq_reading.specs.Sizes.{IsNumber, IsWide}
use Rattle.dq_report.specs.Told.{FitsMet, FitsNext}

abbrev pub IsSizedCell : Cell → Type 0
IsSizedCell cell.Null = Unit {0}
IsSizedCell (cell.Whole n) = IsWide n
IsSizedCell (cell.Word text) = AllByRecursion IsByte text
IsSizedCell (cell.Ratio r) = IsRatio r.sum (count_of r)

abbrev pub IsSizedRow : List Cell → Type 0
IsSizedRow cells = AllByRecursion IsSizedCell cells

abbrev pub IsSizedEntry : Entry → Type 0
IsSizedEntry (Publish lane step) = IsNumber lane × IsNumber step
IsSizedEntry (Admit lane step met) = IsNumber lane × IsNumber step × AllByRecursion FitsMet met
IsSizedEntry (Lease lane flight link fresh) = IsNumber lane × Fits flight × Fits link
IsSizedEntry (Give lane flight link ran runs calls) = IsNumber lane × Fits flight × Fits link × Fits runs × Fits calls
IsSizedEntry (Lose lane flight link dialled ran runs calls) = IsNumber lane × Fits flight × Fits link × Fits runs × Fits calls
IsSizedEntry (Land lane flight cells clever literal) = IsNumber lane × Fits flight × Fits cells
IsSizedEntry (Fall lane flight cause) = IsNumber lane × Fits flight
IsSizedEntry (Take lane flight next) = IsNumber lane × Fits flight × FitsNext next
IsSizedEntry (End lane) = IsNumber lane

abbrev pub IsSizedZone : ZoneResult → Type 0
IsSizedZone (zone.Rows table) = AllByRecursion IsSizedRow (arc_value table)
IsSizedZone (zone.Invalid reason) = Unit {0}
IsSizedZone zone.BackEnd = Unit {0}
IsSizedZone zone.Memory = Unit {0}

abbrev pub IsSizedResult : StepResult → Type 0
IsSizedResult (step.Published place) = Fits place
IsSizedResult step.Unpublished = Unit {0}
IsSizedResult (step.Admitted place zones) = Fits place × AllByRecursion IsSizedZone zones
IsSizedResult (step.Unadmitted zones) = AllByRecursion IsSizedZone zones

abbrev pub IsSizedLane : List StepResult → Type 0
IsSizedLane results = AllByRecursion IsSizedResult results

-- sound entries, and what the types of a journal's and of results' parts keep
pub record IsSized (journal : List Entry) (results : List (List StepResult)) : Type 0 where
  pub sound : AreEntries journal
  pub entries : AllByRecursion IsSizedEntry journal
  pub lanes : AllByRecursion IsSizedLane results
