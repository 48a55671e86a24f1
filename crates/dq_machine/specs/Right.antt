-- When results are right for a journal.
use Rattle.std.specs.Prelude.{◌≡◌, ℕ, ◌+◌, true, List, [], ◌∷◌, slice_get, Option, Some, None, option_and_then}
use Rattle.std.specs.Arc.{arc_value}
use Rattle.dq_base.specs.Answers.{answer}
use Rattle.dq_base.specs.Headings.{Heading}
use Rattle.dq_base.specs.Validity.{invalid_by}
use Rattle.dq_base.specs.declared.cell.Cell.{Cell}
use Rattle.dq_base.specs.declared.invalid.Invalid.{Invalid}
use Rattle.dq_base.specs.declared.query.Query.{Query}
use Rattle.dq_base.specs.declared.script.Step.{Step}
use Rattle.dq_base.specs.declared.script.Step.TheVariants as step
use Rattle.dq_extract.specs.Loads.{LoadedFiles}
use Rattle.dq_journal.specs.Steps.{AreRefused}
use Rattle.dq_journal.specs.Standing.{Rows, stand}
use Rattle.dq_journal.specs.declared.entry.Entry.{Entry}
use Rattle.dq_journal.specs.declared.result.ZoneResult.{ZoneResult}
use Rattle.dq_journal.specs.declared.result.ZoneResult.TheVariants as zone
use Rattle.dq_journal.specs.declared.result.StepResult.{StepResult}
use Rattle.dq_journal.specs.declared.result.StepResult.TheVariants.{Published, Unpublished, Admitted, Unadmitted}
use Rattle.dq_machine.specs.Order.{keeps_order}
use Rattle.dq_machine.specs.Owning.{Fate, Answered, Failed, Wanting, Origin, fate, origins}

-- a zone is refused as invalid exactly for the reason that there is; where there is none, it is as its fate has it
abbrev pub IsOutcome : Option Invalid → Fate → List (List Cell) → ZoneResult → Type 0
IsOutcome (Some reason) f want (zone.Rows table) = ⊥
IsOutcome (Some reason) f want (zone.Invalid told) = told ≡ reason
IsOutcome (Some reason) f want zone.BackEnd = ⊥
IsOutcome (Some reason) f want zone.Memory = ⊥
IsOutcome None Answered want (zone.Rows table) = arc_value table ≡ want
IsOutcome None Answered want (zone.Invalid told) = ⊥
IsOutcome None Answered want zone.BackEnd = ⊥
IsOutcome None Answered want zone.Memory = Unit {0}
IsOutcome None Failed want (zone.Rows table) = ⊥
IsOutcome None Failed want (zone.Invalid told) = ⊥
IsOutcome None Failed want zone.BackEnd = Unit {0}
IsOutcome None Failed want zone.Memory = ⊥
IsOutcome None Wanting want (zone.Rows table) = ⊥
IsOutcome None Wanting want (zone.Invalid told) = ⊥
IsOutcome None Wanting want zone.BackEnd = ⊥
IsOutcome None Wanting want zone.Memory = Unit {0}

-- one for each zone, in order, over the rows of its source
abbrev pub AreEach : List Heading → (ℕ → Rows) → List Entry → List Origin → List Query → List ZoneResult → Type 0
AreEach schemas rows journal origins [] [] = Unit {0}
AreEach schemas rows journal origins [] (z ∷ zs) = ⊥
AreEach schemas rows journal origins (q ∷ qs) [] = ⊥
AreEach schemas rows journal [] (q ∷ qs) (z ∷ zs) = ⊥
AreEach schemas rows journal (o ∷ origins) (q ∷ qs) (z ∷ zs) =
    IsOutcome (invalid_by schemas q) (fate journal o.own) (answer q (rows q.source)) z × AreEach schemas rows journal origins qs zs

-- where the zone is computed from one for which memory was wanting, it is wanting for this one too
abbrev pub IsLed : Option ZoneResult → ZoneResult → Type 0
IsLed None z = Unit {0}
IsLed (Some (zone.Rows table)) z = Unit {0}
IsLed (Some (zone.Invalid told)) z = Unit {0}
IsLed (Some zone.BackEnd) z = Unit {0}
IsLed (Some zone.Memory) z = z ≡ zone.Memory

abbrev pub AreLed : List ZoneResult → List Origin → List ZoneResult → Type 0
AreLed all [] zs = Unit {0}
AreLed all (o ∷ origins) [] = Unit {0}
AreLed all (o ∷ origins) (z ∷ zs) = IsLed (option_and_then (slice_get all) o.leader) z × AreLed all origins zs

pub record AreOutcomes (schemas : List Heading) (rows : ℕ → Rows) (journal : List Entry) (origins : List Origin) (zones : List Query) (outcomes : List ZoneResult) : Type 0 where
  pub each : AreEach schemas rows journal origins zones outcomes
  pub led : AreLed outcomes origins outcomes

-- the outcomes of an admitted batch over the rows that stand at its entry, and those of a batch that was refused for memory
abbrev pub IsResult : LoadedFiles → List Entry → ℕ → Step → StepResult → Type 0
IsResult l journal lane (step.Publish source how file) (Published place) = Unit {0}
IsResult l journal lane (step.Publish source how file) Unpublished = Unit {0}
IsResult l journal lane (step.Publish source how file) (Admitted place outcomes) = ⊥
IsResult l journal lane (step.Publish source how file) (Unadmitted outcomes) = ⊥
IsResult l journal lane (step.Batch zones) (Published place) = ⊥
IsResult l journal lane (step.Batch zones) Unpublished = ⊥
IsResult l journal lane (step.Batch zones) (Admitted place outcomes) =
    AreOutcomes l.script.schemas (stand l journal place) journal (origins l.script.schemas journal lane place zones) zones outcomes
IsResult l journal lane (step.Batch zones) (Unadmitted outcomes) = AreRefused l.script.schemas zones outcomes

-- one for each step of a lane
abbrev pub AreResults : LoadedFiles → List Entry → ℕ → List Step → List StepResult → Type 0
AreResults l journal lane [] [] = Unit {0}
AreResults l journal lane [] (r ∷ results) = ⊥
AreResults l journal lane (s ∷ steps) [] = ⊥
AreResults l journal lane (s ∷ steps) (r ∷ results) = IsResult l journal lane s r × AreResults l journal lane steps results

-- one item for each lane, from this number on
abbrev pub AreLanes : LoadedFiles → List Entry → ℕ → List (List Step) → List (List StepResult) → Type 0
AreLanes l journal lane [] [] = Unit {0}
AreLanes l journal lane [] (rs ∷ results) = ⊥
AreLanes l journal lane (steps ∷ lanes) [] = ⊥
AreLanes l journal lane (steps ∷ lanes) (rs ∷ results) = AreResults l journal lane steps rs × AreLanes l journal (lane + 1) lanes results

-- the journal keeps each lane's order, and each zone has the outcome that it may have
pub record IsRight (l : LoadedFiles) (journal : List Entry) (results : List (List StepResult)) : Type 0 where
  pub order : keeps_order l journal results ≡ true
  pub zones : AreLanes l journal 1 l.script.lanes results
