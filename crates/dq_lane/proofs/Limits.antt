-- A lane's steps, and their bounds.
use Rattle.std.proofs.Common.{◌≡◌, ◌≢◌, ℕ, zero, suc, ◌+◌, ◌-◌, ◌<◌, ◌≤◌, Bool, true, false, eqb, leb, ◌&&◌, List, [], ◌∷◌, length, slice_get, Option, Some, None, refl, ap, sym, ◌∙◌, arith}
use Rattle.std.proofs.lemmas.Bool.{leb-true}
use Rattle.std.proofs.lemmas.Grind.{common_steps}
use Rattle.std.specs.List.{list_all}
use Rattle.std.specs.Prelude.{option_and_then, unwrap_or, is_none}
use Rattle.dq_base.specs.Limits.{most_steps, most_zones}
use Rattle.dq_base.specs.Scripts.{is_lane, numbered, step_of, step_fits, lane_fits, zones_of}
use Rattle.dq_base.specs.declared.query.Query.{Query}
use Rattle.dq_base.specs.declared.script.Step.{Step}
use Rattle.dq_base.specs.declared.script.Step.TheVariants as step
use Rattle.dq_extract.specs.Loads.{LoadedFiles, IsLoaded}
use Rattle.dq_machine.specs.Admitting.{is_batch}
use Rattle.dq_machine.specs.Publishing.{is_publish}
use Rattle.dq_lane.specs.View.{steps_of}

eqb_other : (x y : ℕ) → x ≢ y → eqb x y ≡ false
eqb_other x y ne = grind (arith, common_steps)

pub numbered_next : {X : Type 0} (items : List X) (i : ℕ) → numbered items (i + 1) ≡ slice_get items i
numbered_next items i = let n : i + 1 - 1 ≡ i = omega arith in rw (eqb_other (i + 1) 0 (omega arith), n) refl

numbered_in : (o : Option (List Step)) (i : ℕ) → option_and_then (λ steps. numbered steps (i + 1)) o ≡ slice_get (unwrap_or o []) i
numbered_in None i = refl
numbered_in (Some steps) i = numbered_next steps i

pub step_next : (l : LoadedFiles) (lane i : ℕ) → step_of l.script.lanes lane (i + 1) ≡ slice_get (steps_of l lane) i
step_next l lane i = numbered_in (numbered l.script.lanes lane) i

-- the next step
pub next_is : (l : LoadedFiles) (lane taken : ℕ) (o : Option Step) → step_of l.script.lanes lane (taken + 1) ≡ o → slice_get (steps_of l lane) taken ≡ o
next_is l lane taken o e = sym (step_next l lane taken) ∙ e

-- kinds

pub step_is : (o : Option Step) → is_none o ≡ false → (s : Step) × (o ≡ Some s)
step_is None h = cc
step_is (Some s) h = (s, refl)

pub publish_is : (o : Option Step) → is_publish o ≡ true → (source : ℕ) × (how : _) × (file : _) × (o ≡ Some (step.Publish source how file))
publish_is None h = cc
publish_is (Some (step.Publish source how file)) h = (source, how, file, refl)
publish_is (Some (step.Batch zones)) h = cc

pub batch_is : (o : Option Step) → is_batch o ≡ true → (o ≡ Some (step.Batch (zones_of o)))
batch_is None h = cc
batch_is (Some (step.Publish source how file)) h = cc
batch_is (Some (step.Batch zones)) h = refl

-- bounds

pub both_true : (a b : Bool) → (a && b) ≡ true → (a ≡ true) × (b ≡ true)
both_true true true e = (refl, refl)
both_true true false e = cc
both_true false b e = cc

all_at : {X : Type 0} (p : X → Bool) (xs : List X) (i : ℕ) (x : X) → list_all p xs ≡ true → slice_get xs i ≡ Some x → p x ≡ true
all_at p [] i x all at = cc
all_at p (y ∷ xs) zero x all at = let e : y ≡ x = cc in rw e at (both_true (p y) (list_all p xs) all).0
all_at p (y ∷ xs) (suc i) x all at = all_at p xs i x (both_true (p y) (list_all p xs) all).1 at

lane_of_fits : (extracts : ℕ) (lanes : List (List Step)) (i : ℕ) (o : Option (List Step)) → list_all (lane_fits extracts) lanes ≡ true → slice_get lanes i ≡ o → lane_fits extracts (unwrap_or o []) ≡ true
lane_of_fits extracts lanes i None all at = refl
lane_of_fits extracts lanes i (Some steps) all at = all_at (lane_fits extracts) lanes i steps all at

numbered_fits : (extracts : ℕ) (lanes : List (List Step)) (lane : ℕ) (b : Bool) → eqb lane 0 ≡ b → list_all (lane_fits extracts) lanes ≡ true → lane_fits extracts (unwrap_or (numbered lanes lane) []) ≡ true
numbered_fits extracts lanes lane true e all = rw e refl
numbered_fits extracts lanes lane false e all = rw e (lane_of_fits extracts lanes (lane - 1) (slice_get lanes (lane - 1)) all refl)

steps_fit : (l : LoadedFiles) (lane : ℕ) → IsLoaded l → lane_fits (length l.script.schemas) (steps_of l lane) ≡ true
steps_fit l lane h = numbered_fits (length l.script.schemas) l.script.lanes lane (eqb lane 0) refl h.script.steps

pub few_steps : (l : LoadedFiles) (lane : ℕ) → IsLoaded l → length (steps_of l lane) ≤ most_steps
few_steps l lane h =
    let fits = both_true (leb (length (steps_of l lane)) most_steps) (list_all (step_fits (length l.script.schemas)) (steps_of l lane)) (steps_fit l lane h) in
    leb-true (length (steps_of l lane)) most_steps fits.0

few_in : (extracts : ℕ) (steps : List Step) (i : ℕ) (zones : List Query) → list_all (step_fits extracts) steps ≡ true → slice_get steps i ≡ Some (step.Batch zones) → length zones ≤ most_zones
few_in extracts steps i zones all at = leb-true (length zones) most_zones (all_at (step_fits extracts) steps i (step.Batch zones) all at)

none_at_zero : (o : Option (List Step)) (s : Step) → option_and_then (λ steps. numbered steps 0) o ≡ Some s → ⊥
none_at_zero None s e = cc
none_at_zero (Some steps) s e = cc

pub few_zones : (l : LoadedFiles) (lane number : ℕ) (zones : List Query) → IsLoaded l → step_of l.script.lanes lane number ≡ Some (step.Batch zones) → length zones ≤ most_zones
few_zones l lane zero zones h at = absurd (none_at_zero (numbered l.script.lanes lane) (step.Batch zones) at)
few_zones l lane (suc i) zones h at =
    let n : suc i ≡ i + 1 = omega arith in
    let fits = both_true (leb (length (steps_of l lane)) most_steps) (list_all (step_fits (length l.script.schemas)) (steps_of l lane)) (steps_fit l lane h) in
    few_in (length l.script.schemas) (steps_of l lane) i zones fits.1 (sym (step_next l lane i) ∙ rw n at at)

pub over_at : (ss : List Step) (i : ℕ) → slice_get ss i ≡ None → i ≤ length ss → i ≡ length ss
over_at [] i at le = omega (arith, le)
over_at (s ∷ ss) zero at le = cc
over_at (s ∷ ss) (suc i) at le = ap suc (over_at ss i at (omega (arith, le)))

pub lane_above : (lanes lane : ℕ) → is_lane lanes lane ≡ true → 0 < lane
lane_above lanes lane h = grind (arith, common_steps)

pub lane_within : (lanes lane : ℕ) → is_lane lanes lane ≡ true → lane ≤ lanes
lane_within lanes lane h = grind (arith, common_steps)
