-- Steps and zones are few.
use Rattle.std.proofs.Common.{◌≡◌, ℕ, zero, suc, ◌+◌, ◌-◌, ◌≤◌, Bool, true, false, eqb, leb, List, [], ◌∷◌, length, slice_get, Option, Some, None, refl, sym, ◌∙◌, arith}
use Rattle.std.proofs.lemmas.Bool.{leb-true}
use Rattle.std.proofs.lemmas.Option.{slice_get_within}
use Rattle.std.specs.List.{list_all}
use Rattle.std.specs.Prelude.{option_and_then, unwrap_or}
use Rattle.dq_base.specs.Limits.{most_steps, most_zones}
use Rattle.dq_base.specs.Scripts.{numbered, step_of, step_fits, lane_fits}
use Rattle.dq_base.specs.declared.query.Query.{Query}
use Rattle.dq_base.specs.declared.script.Step.{Step}
use Rattle.dq_base.specs.declared.script.Step.TheVariants as step
use Rattle.dq_extract.proofs.Counts.{numbered-there}
use Rattle.dq_extract.specs.Loads.{LoadedFiles, IsLoaded}
use Rattle.dq_machine.proofs.Reached.{and_first, and_second}

all_at : {X : Type 0} (p : X → Bool) (xs : List X) (i : ℕ) (x : X) → list_all p xs ≡ true → slice_get xs i ≡ Some x → p x ≡ true
all_at p [] i x all at = cc
all_at p (y ∷ xs) zero x all at = let e : y ≡ x = cc in rw e at (and_first (p y) (list_all p xs) all)
all_at p (y ∷ xs) (suc i) x all at = all_at p xs i x (and_second (p y) (list_all p xs) all) at

step_there : (extracts : ℕ) (lanes : List (List Step)) (lane number : ℕ) (o : Option (List Step)) (s : Step)
    → list_all (lane_fits extracts) lanes ≡ true → numbered lanes lane ≡ o → option_and_then (λ steps. numbered steps number) o ≡ Some s
    → (number ≤ most_steps) × (step_fits extracts s ≡ true)
step_there extracts lanes lane number None s all in_lane at = cc
step_there extracts lanes lane number (Some steps) s all in_lane at =
    let fits = all_at (lane_fits extracts) lanes (lane - 1) steps all (numbered-there lanes lane steps in_lane) in
    let few = leb-true (length steps) most_steps (and_first (leb (length steps) most_steps) (list_all (step_fits extracts) steps) fits) in
    let there = numbered-there steps number s at in (
      omega (arith, few, slice_get_within steps (number - 1) s there),
      all_at (step_fits extracts) steps (number - 1) s (and_second (leb (length steps) most_steps) (list_all (step_fits extracts) steps) fits) there,
    )

pub few_steps : (l : LoadedFiles) (lane number : ℕ) (s : Step) → IsLoaded l → step_of l.script.lanes lane number ≡ Some s → number ≤ most_steps
few_steps l lane number s h at = (step_there (length l.script.schemas) l.script.lanes lane number (numbered l.script.lanes lane) s h.script.steps refl at).0

pub few_zones : (l : LoadedFiles) (lane number : ℕ) (zones : List Query) → IsLoaded l → step_of l.script.lanes lane number ≡ Some (step.Batch zones) → length zones ≤ most_zones
few_zones l lane number zones h at =
    leb-true (length zones) most_zones (step_there (length l.script.schemas) l.script.lanes lane number (numbered l.script.lanes lane) (step.Batch zones) h.script.steps refl at).1
