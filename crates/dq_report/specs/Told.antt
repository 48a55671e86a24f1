-- What a report tells.
use Rattle.std.specs.Prelude.{◌≡◌, ℕ, List, length, Option, Some, None}
use Rattle.std.specs.List.{AllByRecursion, AllZip}
use Rattle.std.specs.Arc.{arc_value}
use Rattle.dq_base.specs.Ratios.{count_of}
use Rattle.dq_base.specs.Sizes.{Fits, FitsWhole, IsByte}
use Rattle.dq_base.specs.declared.cell.Cell.{Cell}
use Rattle.dq_base.specs.declared.cell.Cell.TheVariants as cell
use Rattle.dq_journal.specs.Journals.{AreEntries}
use Rattle.dq_journal.specs.declared.entry.Met.{Met}
use Rattle.dq_journal.specs.declared.entry.Met.TheVariants.{Hit, Literal, Join, Group}
use Rattle.dq_journal.specs.declared.entry.Entry.{Entry}
use Rattle.dq_journal.specs.declared.entry.Entry.TheVariants.{Publish, Admit, Lease, Give, Lose, Land, Fall, Take, End}
use Rattle.dq_journal.specs.declared.result.ZoneResult.{ZoneResult}
use Rattle.dq_journal.specs.declared.result.ZoneResult.TheVariants as zone
use Rattle.dq_journal.specs.declared.result.StepResult.{StepResult}
use Rattle.dq_journal.specs.declared.result.StepResult.TheVariants as step
use Rattle.dq_report.specs.Report.{report_text}

-- what fits: the sizes that the types keep

abbrev pub FitsCell : Cell → Type 0
FitsCell cell.Null = Unit {0}
FitsCell (cell.Whole n) = FitsWhole n
FitsCell (cell.Word text) = AllByRecursion IsByte text
FitsCell (cell.Ratio r) = FitsWhole r.sum × Fits (count_of r)

-- no more items than a machine word counts, each of which fits
abbrev pub FitsList : {X : Type 0} → (X → Type 0) → List X → Type 0
FitsList P xs = Fits (length xs) × AllByRecursion P xs

abbrev pub FitsTable : List (List Cell) → Type 0
FitsTable rows = FitsList (AllByRecursion FitsCell) rows

abbrev pub FitsMet : Met → Type 0
FitsMet (Hit flight) = Fits flight
FitsMet (Literal flight) = Fits flight
FitsMet (Join flight) = Fits flight
FitsMet (Group flight) = Fits flight

abbrev pub FitsNext : Option ℕ → Type 0
FitsNext None = Unit {0}
FitsNext (Some next) = Fits next

abbrev pub FitsEntry : Entry → Type 0
FitsEntry (Publish lane step) = Fits lane × Fits step
FitsEntry (Admit lane step met) = Fits lane × Fits step × AllByRecursion FitsMet met
FitsEntry (Lease lane flight link fresh) = Fits lane × Fits flight × Fits link
FitsEntry (Give lane flight link ran runs calls) = Fits lane × Fits flight × Fits link × Fits runs × Fits calls
FitsEntry (Lose lane flight link dialled ran runs calls) = Fits lane × Fits flight × Fits link × Fits runs × Fits calls
FitsEntry (Land lane flight cells clever literal) = Fits lane × Fits flight × Fits cells
FitsEntry (Fall lane flight cause) = Fits lane × Fits flight
FitsEntry (Take lane flight next) = Fits lane × Fits flight × FitsNext next
FitsEntry (End lane) = Fits lane

abbrev pub FitsZone : ZoneResult → Type 0
FitsZone (zone.Rows table) = FitsTable (arc_value table)
FitsZone (zone.Invalid reason) = Unit {0}
FitsZone zone.BackEnd = Unit {0}
FitsZone zone.Memory = Unit {0}

abbrev pub FitsResult : StepResult → Type 0
FitsResult (step.Published place) = Fits place
FitsResult step.Unpublished = Unit {0}
FitsResult (step.Admitted place zones) = Fits place × FitsList FitsZone zones
FitsResult (step.Unadmitted zones) = FitsList FitsZone zones

-- sound entries, and sizes that the types keep
pub record IsWellFormed (journal : List Entry) (results : List (List StepResult)) : Type 0 where
  pub sound : AreEntries journal
  pub entries : FitsList FitsEntry journal
  pub lanes : FitsList (FitsList FitsResult) results

-- equal results

-- equal results of a zone: tables are shared, and compared by their rows
abbrev pub SameZone : ZoneResult → ZoneResult → Type 0
SameZone (zone.Rows table) (zone.Rows other) = arc_value table ≡ arc_value other
SameZone (zone.Rows table) (zone.Invalid other) = ⊥
SameZone (zone.Rows table) zone.BackEnd = ⊥
SameZone (zone.Rows table) zone.Memory = ⊥
SameZone (zone.Invalid reason) (zone.Rows other) = ⊥
SameZone (zone.Invalid reason) (zone.Invalid other) = reason ≡ other
SameZone (zone.Invalid reason) zone.BackEnd = ⊥
SameZone (zone.Invalid reason) zone.Memory = ⊥
SameZone zone.BackEnd (zone.Rows other) = ⊥
SameZone zone.BackEnd (zone.Invalid other) = ⊥
SameZone zone.BackEnd zone.BackEnd = Unit {0}
SameZone zone.BackEnd zone.Memory = ⊥
SameZone zone.Memory (zone.Rows other) = ⊥
SameZone zone.Memory (zone.Invalid other) = ⊥
SameZone zone.Memory zone.BackEnd = ⊥
SameZone zone.Memory zone.Memory = Unit {0}

abbrev pub SameResult : StepResult → StepResult → Type 0
SameResult (step.Published place) (step.Published other) = place ≡ other
SameResult (step.Published place) step.Unpublished = ⊥
SameResult (step.Published place) (step.Admitted other others) = ⊥
SameResult (step.Published place) (step.Unadmitted others) = ⊥
SameResult step.Unpublished (step.Published other) = ⊥
SameResult step.Unpublished step.Unpublished = Unit {0}
SameResult step.Unpublished (step.Admitted other others) = ⊥
SameResult step.Unpublished (step.Unadmitted others) = ⊥
SameResult (step.Admitted place zones) (step.Published other) = ⊥
SameResult (step.Admitted place zones) step.Unpublished = ⊥
SameResult (step.Admitted place zones) (step.Admitted other others) = (place ≡ other) × AllZip SameZone zones others
SameResult (step.Admitted place zones) (step.Unadmitted others) = ⊥
SameResult (step.Unadmitted zones) (step.Published other) = ⊥
SameResult (step.Unadmitted zones) step.Unpublished = ⊥
SameResult (step.Unadmitted zones) (step.Admitted other others) = ⊥
SameResult (step.Unadmitted zones) (step.Unadmitted others) = AllZip SameZone zones others

-- equal results of the lanes' steps
abbrev pub SameResults : List (List StepResult) → List (List StepResult) → Type 0
SameResults results others = AllZip (AllZip SameResult) results others

-- equal reports are of equal journals and equal results
abbrev pub TellsAll : List Entry → List (List StepResult) → List Entry → List (List StepResult) → Type 0
TellsAll journal results other others =
    IsWellFormed journal results → IsWellFormed other others → report_text journal results ≡ report_text other others → (journal ≡ other) × SameResults results others
