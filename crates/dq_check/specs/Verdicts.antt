-- What is wrong with a report, if anything is.
use Rattle.std.specs.Prelude.{◌≡◌, ℕ, zero, suc, ◌+◌, ◌<◌, Bool, true, false, List, [], ◌∷◌, length, nat_eq, is_some, Option, Some, None, MatchOption, MatchBool, if◌then◌else◌}
use Rattle.dq_base.specs.declared.query.Query.{Query}
use Rattle.dq_base.specs.declared.script.Step.{Step}
use Rattle.dq_base.specs.declared.script.Step.TheVariants as step
use Rattle.dq_extract.specs.Loads.{LoadedFiles}
use Rattle.dq_journal.specs.Shown.{FirstIs, IsBlend, IsSame, Joint, Shown, joint_at}
use Rattle.dq_journal.specs.declared.entry.Entry.{Entry}
use Rattle.dq_journal.specs.declared.result.ZoneResult.{ZoneResult}
use Rattle.dq_journal.specs.declared.result.StepResult.{StepResult}
use Rattle.dq_journal.specs.declared.result.StepResult.TheVariants.{Published, Unpublished, Admitted, Unadmitted}
use Rattle.dq_machine.specs.Machine.{allowed, legal, next}
use Rattle.dq_machine.specs.Order.{keeps_order}
use Rattle.dq_machine.specs.Right.{IsResult, IsRight}
use Rattle.dq_machine.specs.State.{State, start}
use Rattle.dq_check.specs.declared.verdict.Verdict.{Verdict}
use Rattle.dq_check.specs.declared.verdict.Verdict.TheVariants.{Lawful, NotReport, Disorder, Illegal, Wrong}

-- the first place, counted from this one, whose entry may not come
abbrev pub first_illegal : LoadedFiles → State → ℕ → List Entry → Option ℕ
first_illegal l s place [] = None
first_illegal l s place (e ∷ entries) = if allowed l s e then first_illegal l (next l s e) (place + 1) entries else Some place

-- zones

-- the first so many outcomes that are shown are shown of these; the first zone of a blend may be behind already
abbrev pub AreShownTo : ℕ → (ℕ → Option Joint) → ℕ → Option (Joint × ZoneResult) → List ZoneResult → List ZoneResult → Type 0
AreShownTo zero at zone before outcomes shown = Unit {0}
AreShownTo (suc n) at zone None [] shown = ⊥
AreShownTo (suc n) at zone None (z ∷ zs) shown =
    MatchOption (at zone) (FirstIs (IsSame z) (AreShownTo n at (zone + 1) None zs) shown) (λ j. AreShownTo (suc n) at (zone + 1) (Some (j, z)) zs shown)
AreShownTo (suc n) at zone (Some p) [] shown = FirstIs (IsSame p.1) (λ ws. Unit {0}) shown
AreShownTo (suc n) at zone (Some p) (z ∷ zs) shown = FirstIs (IsBlend p.0 p.1 z) (AreShownTo n at (zone + 1) None zs) shown

-- how many outcomes are shown of zones from this one on, where those of a blend are shown as one; its first may be behind already
abbrev pub shown_count : (ℕ → Option Joint) → ℕ → Bool → List Query → ℕ
shown_count at zone false [] = 0
shown_count at zone true [] = 1
shown_count at zone true (q ∷ zones) = suc (shown_count at (zone + 1) false zones)
shown_count at zone false (q ∷ zones) = if is_some (at zone) then shown_count at (zone + 1) true zones else suc (shown_count at (zone + 1) false zones)

-- the outcomes that a step's result shows
abbrev pub outcomes_of : StepResult → List ZoneResult
outcomes_of (Published place) = []
outcomes_of Unpublished = []
outcomes_of (Admitted place shown) = shown
outcomes_of (Unadmitted shown) = shown

-- the same result with other outcomes
abbrev pub with_outcomes : StepResult → List ZoneResult → StepResult
with_outcomes (Published place) outcomes = Published place
with_outcomes Unpublished outcomes = Unpublished
with_outcomes (Admitted place shown) outcomes = Admitted place outcomes
with_outcomes (Unadmitted shown) outcomes = Unadmitted outcomes

-- steps

abbrev pub batch_of : Step → List Query
batch_of (step.Publish source how file) = []
batch_of (step.Batch zones) = zones

-- as many outcomes are shown as the step has
abbrev pub has_count : LoadedFiles → ℕ → ℕ → Step → StepResult → Bool
has_count l lane number s shown = nat_eq (length (outcomes_of shown)) (shown_count (joint_at l.script lane number) 1 false (batch_of s))

-- there are right outcomes of the step of which the first so many are shown
pub record Explains (l : LoadedFiles) (journal : List Entry) (lane number : ℕ) (s : Step) (shown : StepResult) (count : ℕ) : Type 0 where
  pub outcomes : List ZoneResult
  pub right : IsResult l journal lane s (with_outcomes shown outcomes)
  pub shows : AreShownTo count (joint_at l.script lane number) 1 None outcomes (outcomes_of shown)

-- all that is shown of the step may be shown
pub record IsExplained (l : LoadedFiles) (journal : List Entry) (lane number : ℕ) (s : Step) (shown : StepResult) : Type 0 where
  pub count : has_count l lane number s shown ≡ true
  pub whole : Explains l journal lane number s shown (length (outcomes_of shown))

-- the zone is the first that may not be shown so; zone 0 stands for another number of outcomes
abbrev pub IsWrongZone : LoadedFiles → List Entry → ℕ → ℕ → Step → StepResult → ℕ → Type 0
IsWrongZone l journal lane number s shown zero = has_count l lane number s shown ≡ false
IsWrongZone l journal lane number s shown (suc before) =
    (has_count l lane number s shown ≡ true)
    × (before < length (outcomes_of shown))
    × Explains l journal lane number s shown before
    × (Explains l journal lane number s shown (suc before) → ⊥)

-- the steps of a lane from this number on are explained
abbrev pub AreExplained : LoadedFiles → List Entry → ℕ → ℕ → List Step → List StepResult → Type 0
AreExplained l journal lane number [] shown = Unit {0}
AreExplained l journal lane number (s ∷ steps) [] = ⊥
AreExplained l journal lane number (s ∷ steps) (r ∷ shown) = IsExplained l journal lane number s r × AreExplained l journal lane (number + 1) steps shown

-- the zone of that step is the first that is wrong, from this step on
abbrev pub IsWrongStep : LoadedFiles → List Entry → ℕ → ℕ → List Step → List StepResult → ℕ → ℕ → Type 0
IsWrongStep l journal lane number [] shown wrong zone = ⊥
IsWrongStep l journal lane number (s ∷ steps) [] wrong zone = ⊥
IsWrongStep l journal lane number (s ∷ steps) (r ∷ shown) wrong zone =
    MatchBool (nat_eq number wrong)
    (IsWrongZone l journal lane number s r zone)
    (IsExplained l journal lane number s r × IsWrongStep l journal lane (number + 1) steps shown wrong zone)

-- and from this lane on
abbrev pub IsWrongLane : LoadedFiles → List Entry → ℕ → List (List Step) → List (List StepResult) → ℕ → ℕ → ℕ → Type 0
IsWrongLane l journal lane [] shown wrong step zone = ⊥
IsWrongLane l journal lane (steps ∷ lanes) [] wrong step zone = ⊥
IsWrongLane l journal lane (steps ∷ lanes) (rs ∷ shown) wrong step zone =
    MatchBool (nat_eq lane wrong)
    (IsWrongStep l journal lane 1 steps rs step zone)
    (AreExplained l journal lane 1 steps rs × IsWrongLane l journal (lane + 1) lanes shown wrong step zone)

-- verdicts

-- there are right results that are shown so
pub record IsRightShown (l : LoadedFiles) (journal : List Entry) (shown : List (List StepResult)) : Type 0 where
  pub results : List (List StepResult)
  pub right : IsRight l journal results
  pub shows : Shown l results shown

-- the first that holds of a report on this journal and what is shown
abbrev pub IsVerdict : LoadedFiles → List Entry → List (List StepResult) → Verdict → Type 0
IsVerdict l journal shown NotReport = ⊥
IsVerdict l journal shown Disorder = keeps_order l journal shown ≡ false
IsVerdict l journal shown (Illegal place) = (keeps_order l journal shown ≡ true) × (first_illegal l (start l) 1 journal ≡ Some place)
IsVerdict l journal shown (Wrong lane number zone) =
    (keeps_order l journal shown ≡ true) × (legal l journal ≡ true) × IsWrongLane l journal 1 l.script.lanes shown lane number zone
IsVerdict l journal shown Lawful = (keeps_order l journal shown ≡ true) × (legal l journal ≡ true) × IsRightShown l journal shown
