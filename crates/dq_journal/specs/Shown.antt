-- What is shown of results, where some zones are blended.
use Rattle.std.specs.Prelude.{◌≡◌, ℕ, ◌+◌, Bool, ◌&&◌, nat_eq, List, [], ◌∷◌, find, length, Option, Some, None, option_map, MatchOption}
use Rattle.std.specs.Arc.{arc_value}
use Rattle.dq_base.specs.Blends.{blend_of}
use Rattle.dq_base.specs.declared.cell.Cell.{Cell}
use Rattle.dq_base.specs.declared.query.Query.{Query}
use Rattle.dq_base.specs.declared.script.Blend.{Blend}
use Rattle.dq_base.specs.declared.script.Script.{Script}
use Rattle.dq_base.specs.declared.script.Step.{Step}
use Rattle.dq_base.specs.Scripts.{numbered, step_of, zones_of}
use Rattle.dq_extract.specs.Loads.{LoadedFiles}
use Rattle.dq_journal.specs.declared.result.ZoneResult.{ZoneResult}
use Rattle.dq_journal.specs.declared.result.ZoneResult.TheVariants.{Rows, Invalid, BackEnd, Memory}
use Rattle.dq_journal.specs.declared.result.StepResult.{StepResult}
use Rattle.dq_journal.specs.declared.result.StepResult.TheVariants.{Published, Unpublished, Admitted, Unadmitted}

-- how two outcomes are joined: the places of the dimensions on which they agree, and how many measures the second one brings
pub record Joint : Type 0 where
  pub links : List ℕ
  pub measures : ℕ

-- the blend of a lane's step that begins at a zone, if there is one
abbrev pub begins_at : ℕ → ℕ → ℕ → Blend → Bool
begins_at lane step zone b = nat_eq b.lane lane && nat_eq b.step step && nat_eq b.zone zone

abbrev pub measures_of : Option Query → ℕ
measures_of None = 0
measures_of (Some q) = length q.measures

abbrev pub joint_of : List (List Step) → Blend → Joint
joint_of lanes b = record { links = b.links; measures = measures_of (numbered (zones_of (step_of lanes b.lane b.step)) (b.zone + 1)) }

abbrev pub joint_at : Script → ℕ → ℕ → ℕ → Option Joint
joint_at script lane step zone = option_map (joint_of script.lanes) (find (begins_at lane step zone) script.blends)

-- the same outcome, whoever owns its rows
abbrev pub IsSame : ZoneResult → ZoneResult → Type 0
IsSame (Rows t) (Rows u) = arc_value u ≡ arc_value t
IsSame (Rows t) (Invalid told) = ⊥
IsSame (Rows t) BackEnd = ⊥
IsSame (Rows t) Memory = ⊥
IsSame (Invalid reason) (Rows u) = ⊥
IsSame (Invalid reason) (Invalid told) = told ≡ reason
IsSame (Invalid reason) BackEnd = ⊥
IsSame (Invalid reason) Memory = ⊥
IsSame BackEnd (Rows u) = ⊥
IsSame BackEnd (Invalid told) = ⊥
IsSame BackEnd BackEnd = Unit {0}
IsSame BackEnd Memory = ⊥
IsSame Memory (Rows u) = ⊥
IsSame Memory (Invalid told) = ⊥
IsSame Memory BackEnd = ⊥
IsSame Memory Memory = Unit {0}

-- these rows, where memory may be wanting
abbrev pub AreRows : List (List Cell) → ZoneResult → Type 0
AreRows want (Rows table) = arc_value table ≡ want
AreRows want (Invalid told) = ⊥
AreRows want BackEnd = ⊥
AreRows want Memory = Unit {0}

-- one outcome in the place of two: the first where it has no rows, else the second where that has none, else the blend
abbrev pub IsBlend : Joint → ZoneResult → ZoneResult → ZoneResult → Type 0
IsBlend j (Rows t) (Rows u) w = AreRows (blend_of (arc_value t) (arc_value u) j.links j.measures) w
IsBlend j (Rows t) (Invalid reason) w = IsSame (Invalid reason) w
IsBlend j (Rows t) BackEnd w = IsSame BackEnd w
IsBlend j (Rows t) Memory w = IsSame Memory w
IsBlend j (Invalid reason) second w = IsSame (Invalid reason) w
IsBlend j BackEnd second w = IsSame BackEnd w
IsBlend j Memory second w = IsSame Memory w

-- the first of these outcomes is of that kind, and the others are so
abbrev pub FirstIs : (ZoneResult → Type 0) → (List ZoneResult → Type 0) → List ZoneResult → Type 0
FirstIs Is Rest [] = ⊥
FirstIs Is Rest (w ∷ ws) = Is w × Rest ws

-- the outcomes from a zone on, by where blends begin; the first zone of a blend may be behind already
abbrev pub AreShown : (ℕ → Option Joint) → ℕ → Option (Joint × ZoneResult) → List ZoneResult → List ZoneResult → Type 0
AreShown at zone None [] shown = shown ≡ []
AreShown at zone None (z ∷ zs) shown =
    MatchOption (at zone) (FirstIs (IsSame z) (AreShown at (zone + 1) None zs) shown) (λ j. AreShown at (zone + 1) (Some (j, z)) zs shown)
AreShown at zone (Some p) [] shown = FirstIs (IsSame p.1) (λ ws. ws ≡ []) shown
AreShown at zone (Some p) (z ∷ zs) shown = FirstIs (IsBlend p.0 p.1 z) (AreShown at (zone + 1) None zs) shown

abbrev pub IsStepShown : (ℕ → Option Joint) → StepResult → StepResult → Type 0
IsStepShown at (Published place) (Published told) = told ≡ place
IsStepShown at (Published place) Unpublished = ⊥
IsStepShown at (Published place) (Admitted told shown) = ⊥
IsStepShown at (Published place) (Unadmitted shown) = ⊥
IsStepShown at Unpublished (Published told) = ⊥
IsStepShown at Unpublished Unpublished = Unit {0}
IsStepShown at Unpublished (Admitted told shown) = ⊥
IsStepShown at Unpublished (Unadmitted shown) = ⊥
IsStepShown at (Admitted place outcomes) (Published told) = ⊥
IsStepShown at (Admitted place outcomes) Unpublished = ⊥
IsStepShown at (Admitted place outcomes) (Admitted told shown) = (told ≡ place) × AreShown at 1 None outcomes shown
IsStepShown at (Admitted place outcomes) (Unadmitted shown) = ⊥
IsStepShown at (Unadmitted outcomes) (Published told) = ⊥
IsStepShown at (Unadmitted outcomes) Unpublished = ⊥
IsStepShown at (Unadmitted outcomes) (Admitted told shown) = ⊥
IsStepShown at (Unadmitted outcomes) (Unadmitted shown) = AreShown at 1 None outcomes shown

-- one for each step of a lane, from this number on
abbrev pub AreStepsShown : (ℕ → ℕ → Option Joint) → ℕ → List StepResult → List StepResult → Type 0
AreStepsShown at number [] shown = shown ≡ []
AreStepsShown at number (r ∷ rs) [] = ⊥
AreStepsShown at number (r ∷ rs) (w ∷ shown) = IsStepShown (at number) r w × AreStepsShown at (number + 1) rs shown

-- one for each lane, from this number on
abbrev pub AreLanesShown : (ℕ → ℕ → ℕ → Option Joint) → ℕ → List (List StepResult) → List (List StepResult) → Type 0
AreLanesShown at lane [] shown = shown ≡ []
AreLanesShown at lane (rs ∷ results) [] = ⊥
AreLanesShown at lane (rs ∷ results) (ws ∷ shown) = AreStepsShown (at lane) 1 rs ws × AreLanesShown at (lane + 1) results shown

-- the results, with each blend's two outcomes in the place of one
abbrev pub Shown : LoadedFiles → List (List StepResult) → List (List StepResult) → Type 0
Shown l results shown = AreLanesShown (joint_at l.script) 1 results shown
