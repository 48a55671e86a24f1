-- The results of the steps behind a lane.
use Rattle.std.proofs.Common.{◌≡◌, ℕ, zero, suc, ◌+◌, ◌<◌, Bool, true, false, ◌&&◌, List, [], ◌∷◌, ◌++◌, length, map, take, slice_get, slice_set, Option, Some, None, refl, ap, sym, ◌∙◌, arith}
use Rattle.dq_base.specs.declared.script.Step.{Step}
use Rattle.dq_base.specs.declared.script.Step.TheVariants as step
use Rattle.dq_extract.specs.Loads.{LoadedFiles}
use Rattle.dq_journal.specs.Steps.{done_from}
use Rattle.dq_journal.specs.declared.entry.Entry.{Entry}
use Rattle.dq_journal.specs.declared.result.StepResult.{StepResult}
use Rattle.dq_journal.specs.declared.result.StepResult.TheVariants.{Published, Unpublished, Admitted, Unadmitted}
use Rattle.dq_machine.specs.Order.{tell_places, tells_place}
use Rattle.dq_machine.specs.Right.{AreResults, IsResult}
use Rattle.dq_lane.specs.Order.{named_from, place_tells, places_tell}
use Rattle.dq_lane.specs.View.{place_of}
use Rattle.dq_lane.proofs.Limits.{both_true}

pub results_more : (l : LoadedFiles) (journal : List Entry) (lane i : ℕ) (ss : List Step) (rs : List StepResult) (s : Step) (r : StepResult) → AreResults l journal lane (take i ss) (take i rs)
    → slice_get ss i ≡ Some s → slice_get rs i ≡ Some r → IsResult l journal lane s r → AreResults l journal lane (take (i + 1) ss) (take (i + 1) rs)
results_more l journal lane i [] rs s r are at there is = cc
results_more l journal lane i (t ∷ ss) [] s r are at there is = cc
results_more l journal lane zero (t ∷ ss) (x ∷ rs) s r are at there is =
    let e : t ≡ s = cc in
    let f : x ≡ r = cc in
    (rw (e, f) is, tt)
results_more l journal lane (suc i) (t ∷ ss) (x ∷ rs) s r are at there is =
    let n : suc i + 1 ≡ suc (i + 1) = omega arith in
    rw n (are.0, results_more l journal lane i ss rs s r are.1 at there is)

pub take_set : {X : Type 0} (i : ℕ) (xs : List X) (x : X) → take i (slice_set xs i x) ≡ take i xs
take_set i [] x = refl
take_set zero (y ∷ xs) x = refl
take_set (suc i) (y ∷ xs) x = ap (λ ys. y ∷ ys) (take_set i xs x)

pub there_set : {X : Type 0} (xs : List X) (i : ℕ) (x : X) → i < length xs → slice_get (slice_set xs i x) i ≡ Some x
there_set [] i x lt = absurd (omega arith)
there_set (y ∷ xs) zero x lt = refl
there_set (y ∷ xs) (suc i) x lt = there_set xs i x (omega arith)

pub results_more_set : (l : LoadedFiles) (journal : List Entry) (lane i : ℕ) (ss : List Step) (rs : List StepResult) (s : Step) (r : StepResult) → AreResults l journal lane (take i ss) (take i rs)
    → slice_get ss i ≡ Some s → i < length rs → IsResult l journal lane s r → AreResults l journal lane (take (i + 1) ss) (take (i + 1) (slice_set rs i r))
results_more_set l journal lane i ss rs s r are at lt is =
    results_more l journal lane i ss (slice_set rs i r) s r (rw (take_set i rs r) are) at (there_set rs i r lt) is

-- places

pub places_more : (i : ℕ) (rs : List StepResult) (r : StepResult) → slice_get rs i ≡ Some r → map place_of (take (i + 1) rs) ≡ map place_of (take i rs) ++ place_of r ∷ []
places_more i [] r at = cc
places_more zero (x ∷ rs) r at = let e : x ≡ r = cc in rw e refl
places_more (suc i) (x ∷ rs) r at = let n : suc i + 1 ≡ suc (i + 1) = omega arith in rw n (ap (λ places. place_of x ∷ places) (places_more i rs r at))

pub places_set : (i : ℕ) (rs : List StepResult) (r : StepResult) → i < length rs → map place_of (take (i + 1) (slice_set rs i r)) ≡ map place_of (take i rs) ++ place_of r ∷ []
places_set i rs r lt = places_more i (slice_set rs i r) r (there_set rs i r lt) ∙ ap (λ xs. map place_of xs ++ place_of r ∷ []) (take_set i rs r)

-- results that are right tell their places as the lane does

pub done_named : (k : ℕ) (rs : List StepResult) → done_from k rs ≡ named_from k (map place_of rs)
done_named k [] = refl
done_named k (Published place ∷ rs) = ap (λ ns. k ∷ ns) (done_named (k + 1) rs)
done_named k (Unpublished ∷ rs) = done_named (k + 1) rs
done_named k (Admitted place outcomes ∷ rs) = ap (λ ns. k ∷ ns) (done_named (k + 1) rs)
done_named k (Unadmitted outcomes ∷ rs) = done_named (k + 1) rs

one_tells : (l : LoadedFiles) (journal : List Entry) (lane k : ℕ) (s : Step) (r : StepResult) → IsResult l journal lane s r → tells_place journal lane k s r ≡ place_tells journal lane k s (place_of r)
one_tells l journal lane k (step.Publish source how file) (Published place) is = refl
one_tells l journal lane k (step.Publish source how file) Unpublished is = refl
one_tells l journal lane k (step.Publish source how file) (Admitted place outcomes) is = absurd is
one_tells l journal lane k (step.Publish source how file) (Unadmitted outcomes) is = absurd is
one_tells l journal lane k (step.Batch zones) (Published place) is = absurd is
one_tells l journal lane k (step.Batch zones) Unpublished is = absurd is
one_tells l journal lane k (step.Batch zones) (Admitted place outcomes) is = refl
one_tells l journal lane k (step.Batch zones) (Unadmitted outcomes) is = refl

pub all_tell : (l : LoadedFiles) (journal : List Entry) (lane k : ℕ) (ss : List Step) (rs : List StepResult) → AreResults l journal lane ss rs → tell_places journal lane k ss rs ≡ places_tell journal lane k ss (map place_of rs)
all_tell l journal lane k [] [] are = refl
all_tell l journal lane k [] (r ∷ rs) are = absurd are
all_tell l journal lane k (s ∷ ss) [] are = absurd are
all_tell l journal lane k (s ∷ ss) (r ∷ rs) are = rw (one_tells l journal lane k s r are.0, all_tell l journal lane (k + 1) ss rs are.1) refl
