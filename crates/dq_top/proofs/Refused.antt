-- Where no link is lost, a zone is refused exactly where its query isn't valid.
use Rattle.std.proofs.Common.{◌≡◌, ℕ, ◌+◌, Bool, true, false, List, [], ◌∷◌, Option, Some, None, refl, subst}
use Rattle.std.specs.Prelude.{is_some}
use Rattle.std.specs.List.{list_any}
use Rattle.dq_base.specs.Headings.{Heading}
use Rattle.dq_base.specs.Validity.{invalid_by}
use Rattle.dq_base.specs.declared.cell.Cell.{Cell}
use Rattle.dq_base.specs.declared.invalid.Invalid.{Invalid}
use Rattle.dq_base.specs.declared.query.Query.{Query}
use Rattle.dq_base.specs.declared.script.Step.{Step}
use Rattle.dq_base.specs.declared.script.Step.TheVariants as step
use Rattle.dq_extract.specs.Loads.{LoadedFiles}
use Rattle.dq_journal.specs.Steps.{AreRefused, IsRefused}
use Rattle.dq_journal.specs.Standing.{Rows}
use Rattle.dq_journal.specs.declared.entry.Entry.{Entry}
use Rattle.dq_journal.specs.declared.result.ZoneResult.{ZoneResult}
use Rattle.dq_journal.specs.declared.result.ZoneResult.TheVariants as zone
use Rattle.dq_journal.specs.declared.result.StepResult.{StepResult}
use Rattle.dq_journal.specs.declared.result.StepResult.TheVariants.{Published, Unpublished, Admitted, Unadmitted}
use Rattle.dq_machine.specs.Owning.{Fate, Answered, Failed, Wanting, Origin, falls_wanting, fate, fate_by, losses_of}
use Rattle.dq_machine.specs.Right.{AreEach, AreLanes, AreResults, IsOutcome, IsResult, IsRight}
use Rattle.dq_top.specs.Outcomes.{any_invalid, any_refused, is_invalid, is_refused, step_invalid, step_refused}

-- no link is lost for any flight
abbrev pub IsCalm : List Entry → Type 0
IsCalm journal = (flight : ℕ) → losses_of journal flight ≡ 0

no_failure : (losses : ℕ) (wanting : Bool) → losses ≡ 0 → fate_by losses wanting ≡ Failed → ⊥
no_failure losses true none is = let failed : fate_by 0 true ≡ Failed = subst (λ n. fate_by n true ≡ Failed) none is in cc
no_failure losses false none is = let failed : fate_by 0 false ≡ Failed = subst (λ n. fate_by n false ≡ Failed) none is in cc

calm_fate : (journal : List Entry) (own : Option ℕ) → IsCalm journal → fate journal own ≡ Failed → ⊥
calm_fate journal None calm is = cc
calm_fate journal (Some flight) calm is = no_failure (losses_of journal flight) (list_any (falls_wanting flight) journal) (calm flight) is

outcome_refused : (reason : Option Invalid) (f : Fate) (want : List (List Cell)) (z : ZoneResult) → (f ≡ Failed → ⊥) → IsOutcome reason f want z → is_refused z ≡ is_some reason
outcome_refused (Some reason) f want (zone.Rows table) calm is = absurd is
outcome_refused (Some reason) f want (zone.Invalid told) calm is = refl
outcome_refused (Some reason) f want zone.BackEnd calm is = absurd is
outcome_refused (Some reason) f want zone.Memory calm is = absurd is
outcome_refused None Answered want (zone.Rows table) calm is = refl
outcome_refused None Answered want (zone.Invalid told) calm is = absurd is
outcome_refused None Answered want zone.BackEnd calm is = absurd is
outcome_refused None Answered want zone.Memory calm is = refl
outcome_refused None Failed want z calm is = absurd (calm refl)
outcome_refused None Wanting want (zone.Rows table) calm is = absurd is
outcome_refused None Wanting want (zone.Invalid told) calm is = absurd is
outcome_refused None Wanting want zone.BackEnd calm is = absurd is
outcome_refused None Wanting want zone.Memory calm is = refl

-- of a batch that memory was wanting for
spared_refused : (reason : Option Invalid) (z : ZoneResult) → IsRefused reason z → is_refused z ≡ is_some reason
spared_refused reason (zone.Rows table) is = absurd is
spared_refused reason (zone.Invalid told) is = rw is refl
spared_refused reason zone.BackEnd is = absurd is
spared_refused reason zone.Memory is = rw is refl

outcomes_refused : (schemas : List Heading) (rows : ℕ → Rows) (journal : List Entry) (origins : List Origin) (qs : List Query) (zs : List ZoneResult)
    → IsCalm journal → AreEach schemas rows journal origins qs zs → list_any is_refused zs ≡ list_any (is_invalid schemas) qs
outcomes_refused schemas rows journal origins [] [] calm are = refl
outcomes_refused schemas rows journal origins [] (z ∷ zs) calm are = absurd are
outcomes_refused schemas rows journal origins (q ∷ qs) [] calm are = absurd are
outcomes_refused schemas rows journal [] (q ∷ qs) (z ∷ zs) calm are = absurd are
outcomes_refused schemas rows journal (o ∷ origins) (q ∷ qs) (z ∷ zs) calm are =
    rw (outcome_refused (invalid_by schemas q) (fate journal o.own) _ z (calm_fate journal o.own calm) are.0, outcomes_refused schemas rows journal origins qs zs calm are.1) refl

all_spared : (schemas : List Heading) (qs : List Query) (zs : List ZoneResult)
    → AreRefused schemas qs zs → list_any is_refused zs ≡ list_any (is_invalid schemas) qs
all_spared schemas [] [] are = refl
all_spared schemas [] (z ∷ zs) are = absurd are
all_spared schemas (q ∷ qs) [] are = absurd are
all_spared schemas (q ∷ qs) (z ∷ zs) are = rw (spared_refused (invalid_by schemas q) z are.0, all_spared schemas qs zs are.1) refl

result_refused : (l : LoadedFiles) (journal : List Entry) (lane : ℕ) (s : Step) (r : StepResult)
    → IsCalm journal → IsResult l journal lane s r → step_refused r ≡ step_invalid l.script.schemas s
result_refused l journal lane (step.Publish source how file) (Published place) calm is = refl
result_refused l journal lane (step.Publish source how file) Unpublished calm is = refl
result_refused l journal lane (step.Publish source how file) (Admitted place outcomes) calm is = absurd is
result_refused l journal lane (step.Publish source how file) (Unadmitted outcomes) calm is = absurd is
result_refused l journal lane (step.Batch zones) (Published place) calm is = absurd is
result_refused l journal lane (step.Batch zones) Unpublished calm is = absurd is
result_refused l journal lane (step.Batch zones) (Admitted place outcomes) calm is = outcomes_refused l.script.schemas _ journal _ zones outcomes calm is.each
result_refused l journal lane (step.Batch zones) (Unadmitted outcomes) calm is = all_spared l.script.schemas zones outcomes is

results_refused : (l : LoadedFiles) (journal : List Entry) (lane : ℕ) (steps : List Step) (results : List StepResult)
    → IsCalm journal → AreResults l journal lane steps results → list_any step_refused results ≡ list_any (step_invalid l.script.schemas) steps
results_refused l journal lane [] [] calm are = refl
results_refused l journal lane [] (r ∷ rs) calm are = absurd are
results_refused l journal lane (s ∷ ss) [] calm are = absurd are
results_refused l journal lane (s ∷ ss) (r ∷ rs) calm are =
    rw (result_refused l journal lane s r calm are.0, results_refused l journal lane ss rs calm are.1) refl

lanes_refused : (l : LoadedFiles) (journal : List Entry) (lane : ℕ) (lanes : List (List Step)) (results : List (List StepResult))
    → IsCalm journal → AreLanes l journal lane lanes results
    → any_refused results ≡ list_any (λ steps. list_any (step_invalid l.script.schemas) steps) lanes
lanes_refused l journal lane [] [] calm are = refl
lanes_refused l journal lane [] (rs ∷ results) calm are = absurd are
lanes_refused l journal lane (steps ∷ lanes) [] calm are = absurd are
lanes_refused l journal lane (steps ∷ lanes) (rs ∷ results) calm are =
    rw (results_refused l journal lane steps rs calm are.0, lanes_refused l journal (lane + 1) lanes results calm are.1) refl

pub refused_invalid : (l : LoadedFiles) (journal : List Entry) (results : List (List StepResult))
    → IsCalm journal → IsRight l journal results → any_refused results ≡ any_invalid l.script
refused_invalid l journal results calm right = lanes_refused l journal 1 l.script.lanes results calm right.zones
