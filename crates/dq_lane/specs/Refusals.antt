-- The results of refused steps.
use Rattle.std.specs.Prelude.{ℕ, List, [], ◌∷◌}
use Rattle.dq_base.specs.Headings.{Heading}
use Rattle.dq_base.specs.declared.script.Step.{Step}
use Rattle.dq_base.specs.declared.script.Step.TheVariants as step
use Rattle.dq_journal.specs.Steps.{AreRefused}
use Rattle.dq_journal.specs.declared.result.StepResult.{StepResult}
use Rattle.dq_journal.specs.declared.result.StepResult.TheVariants.{Published, Unpublished, Admitted, Unadmitted}

-- a step's result where it is refused
abbrev pub IsRefusal : List Heading → Step → StepResult → Type 0
IsRefusal schemas (step.Publish source how file) (Published place) = ⊥
IsRefusal schemas (step.Publish source how file) Unpublished = Unit {0}
IsRefusal schemas (step.Publish source how file) (Admitted place outcomes) = ⊥
IsRefusal schemas (step.Publish source how file) (Unadmitted outcomes) = ⊥
IsRefusal schemas (step.Batch zones) (Published place) = ⊥
IsRefusal schemas (step.Batch zones) Unpublished = ⊥
IsRefusal schemas (step.Batch zones) (Admitted place outcomes) = ⊥
IsRefusal schemas (step.Batch zones) (Unadmitted outcomes) = AreRefused schemas zones outcomes

-- one for each step, in order
abbrev pub AreRefusals : List Heading → List Step → List StepResult → Type 0
AreRefusals schemas [] [] = Unit {0}
AreRefusals schemas [] (r ∷ rs) = ⊥
AreRefusals schemas (s ∷ ss) [] = ⊥
AreRefusals schemas (s ∷ ss) (r ∷ rs) = IsRefusal schemas s r × AreRefusals schemas ss rs
