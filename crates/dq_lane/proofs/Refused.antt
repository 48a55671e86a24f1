-- Results of refused steps.
use Rattle.std.proofs.Common.{◌≡◌, ℕ, zero, suc, ◌+◌, ◌<◌, List, [], ◌∷◌, ◌++◌, length, take, drop, get_or, slice_get, slice_set, Some, None, refl, ap, sym, ◌∙◌, arith}
use Rattle.std.proofs.lemmas.List.{drop-set-lt, take_more}
use Rattle.dq_base.specs.Headings.{Heading}
use Rattle.dq_base.specs.declared.query.Query.{Query}
use Rattle.dq_base.specs.declared.script.Step.{Step}
use Rattle.dq_base.specs.declared.script.Step.TheVariants as step
use Rattle.dq_extract.specs.Loads.{LoadedFiles}
use Rattle.dq_journal.specs.Steps.{AreRefused}
use Rattle.dq_journal.specs.declared.entry.Entry.{Entry}
use Rattle.dq_journal.specs.declared.result.StepResult.{StepResult}
use Rattle.dq_journal.specs.declared.result.StepResult.TheVariants.{Published, Unpublished, Admitted, Unadmitted}
use Rattle.dq_journal.specs.declared.result.ZoneResult.{ZoneResult}
use Rattle.dq_machine.specs.Right.{IsResult}
use Rattle.dq_lane.specs.Refusals.{AreRefusals, IsRefusal}
use Rattle.dq_lane.specs.View.{place_of}

AreRefusals-push : (schemas : List Heading) (ss : List Step) (rs : List StepResult) (s : Step) (r : StepResult) → AreRefusals schemas ss rs → IsRefusal schemas s r → AreRefusals schemas (ss ++ s ∷ []) (rs ++ r ∷ [])
AreRefusals-push schemas [] [] s r are is = (is, tt)
AreRefusals-push schemas [] (y ∷ rs) s r are is = absurd are
AreRefusals-push schemas (p ∷ ss) [] s r are is = absurd are
AreRefusals-push schemas (p ∷ ss) (y ∷ rs) s r are is = (are.0, AreRefusals-push schemas ss rs s r are.1 is)

pub refusals_more : (schemas : List Heading) (steps : List Step) (i : ℕ) (s : Step) (before after : List StepResult) (r : StepResult)
    → i < length steps → s ≡ get_or steps i s → AreRefusals schemas (take i steps) before → IsRefusal schemas s r → after ≡ before ++ r ∷ [] → AreRefusals schemas (take (i + 1) steps) after
refusals_more schemas steps i s before after r lt at are is more =
    let taken = take_more steps i s lt ∙ ap (λ p. take i steps ++ p ∷ []) (sym at) in
    rw (taken, more) (AreRefusals-push schemas (take i steps) before s r are is)

pub length_refused : (schemas : List Heading) (ss : List Step) (rs : List StepResult) → AreRefusals schemas ss rs → length rs ≡ length ss
length_refused schemas [] [] h = refl
length_refused schemas [] (r ∷ rs) h = absurd h
length_refused schemas (s ∷ ss) [] h = absurd h
length_refused schemas (s ∷ ss) (r ∷ rs) h = ap suc (length_refused schemas ss rs h.1)

-- a refusal is right for any journal, and has no place

pub result_refused : (l : LoadedFiles) (journal : List Entry) (lane : ℕ) (s : Step) (r : StepResult) → IsRefusal l.script.schemas s r → IsResult l journal lane s r
result_refused l journal lane (step.Publish source how file) (Published place) h = absurd h
result_refused l journal lane (step.Publish source how file) Unpublished h = tt
result_refused l journal lane (step.Publish source how file) (Admitted place outcomes) h = absurd h
result_refused l journal lane (step.Publish source how file) (Unadmitted outcomes) h = absurd h
result_refused l journal lane (step.Batch zones) (Published place) h = absurd h
result_refused l journal lane (step.Batch zones) Unpublished h = absurd h
result_refused l journal lane (step.Batch zones) (Admitted place outcomes) h = absurd h
result_refused l journal lane (step.Batch zones) (Unadmitted outcomes) h = h

pub no_place : (schemas : List Heading) (s : Step) (r : StepResult) → IsRefusal schemas s r → place_of r ≡ None
no_place schemas (step.Publish source how file) (Published place) h = absurd h
no_place schemas (step.Publish source how file) Unpublished h = refl
no_place schemas (step.Publish source how file) (Admitted place outcomes) h = absurd h
no_place schemas (step.Publish source how file) (Unadmitted outcomes) h = absurd h
no_place schemas (step.Batch zones) (Published place) h = absurd h
no_place schemas (step.Batch zones) Unpublished h = absurd h
no_place schemas (step.Batch zones) (Admitted place outcomes) h = absurd h
no_place schemas (step.Batch zones) (Unadmitted outcomes) h = refl

-- those to come

pub refusal_at : (schemas : List Heading) (i : ℕ) (ss : List Step) (rs : List StepResult) (s : Step) → AreRefusals schemas (drop i ss) (drop i rs) → slice_get ss i ≡ Some s → length rs ≡ length ss → (r : StepResult) × (slice_get rs i ≡ Some r) × IsRefusal schemas s r
refusal_at schemas i [] rs s are at len = cc
refusal_at schemas i (t ∷ ss) [] s are at len = absurd (omega (arith, len))
refusal_at schemas zero (t ∷ ss) (x ∷ rs) s are at len = let e : t ≡ s = cc in (x, refl, rw e at are.0)
refusal_at schemas (suc i) (t ∷ ss) (x ∷ rs) s are at len = refusal_at schemas i ss rs s are at (omega (arith, len))

pub refusals_behind : (schemas : List Heading) (i : ℕ) (ss : List Step) (rs : List StepResult) → AreRefusals schemas (drop i ss) (drop i rs) → i < length ss → length rs ≡ length ss → AreRefusals schemas (drop (i + 1) ss) (drop (i + 1) rs)
refusals_behind schemas i [] rs are lt len = absurd (omega (arith, lt))
refusals_behind schemas i (t ∷ ss) [] are lt len = absurd (omega (arith, len))
refusals_behind schemas zero (t ∷ ss) (x ∷ rs) are lt len = are.1
refusals_behind schemas (suc i) (t ∷ ss) (x ∷ rs) are lt len = let n : suc i + 1 ≡ suc (i + 1) = omega arith in rw n (refusals_behind schemas i ss rs are (omega (arith, lt)) (omega (arith, len)))

pub refusals_behind_set : (schemas : List Heading) (i : ℕ) (ss : List Step) (rs : List StepResult) (r : StepResult) → AreRefusals schemas (drop i ss) (drop i rs) → i < length ss → length rs ≡ length ss
    → AreRefusals schemas (drop (i + 1) ss) (drop (i + 1) (slice_set rs i r))
refusals_behind_set schemas i ss rs r are lt len = rw (drop-set-lt (i + 1) rs i r (omega arith)) (refusals_behind schemas i ss rs are lt len)

-- a batch to come is unadmitted, with what refuses its zones
pub unadmitted_is : (schemas : List Heading) (zones : List Query) (r : StepResult) → IsRefusal schemas (step.Batch zones) r → (outcomes : List ZoneResult) × (r ≡ Unadmitted outcomes) × AreRefused schemas zones outcomes
unadmitted_is schemas zones (Published place) h = absurd h
unadmitted_is schemas zones Unpublished h = absurd h
unadmitted_is schemas zones (Admitted place outcomes) h = absurd h
unadmitted_is schemas zones (Unadmitted outcomes) h = (outcomes, refl, h)
