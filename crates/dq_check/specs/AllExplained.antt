-- When all that is shown is explained.
use Rattle.std.specs.Prelude.{ℕ, ◌+◌, List, [], ◌∷◌}
use Rattle.dq_base.specs.declared.script.Step.{Step}
use Rattle.dq_extract.specs.Loads.{LoadedFiles}
use Rattle.dq_journal.specs.declared.entry.Entry.{Entry}
use Rattle.dq_journal.specs.declared.result.StepResult.{StepResult}
use Rattle.dq_check.specs.Verdicts.{AreExplained}

-- the steps of the lanes from this number on are explained
abbrev pub AreLanesExplained : LoadedFiles → List Entry → ℕ → List (List Step) → List (List StepResult) → Type 0
AreLanesExplained l journal lane [] shown = Unit {0}
AreLanesExplained l journal lane (steps ∷ lanes) [] = ⊥
AreLanesExplained l journal lane (steps ∷ lanes) (rs ∷ shown) = AreExplained l journal lane 1 steps rs × AreLanesExplained l journal (lane + 1) lanes shown
