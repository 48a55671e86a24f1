-- What stands of each source, and how a publication changes it.
use Rattle.std.proofs.Common.{◌≡◌, ◌≢◌, inl, inr, ℕ, zero, suc, ◌+◌, ◌*◌, ◌-◌, ◌<◌, ◌≤◌, Bool, true, false, eqb, List, [], ◌∷◌, length, get_or, map, slice_set, length-set, refl, ap, sym, ◌∙◌, arith}
use Rattle.std.proofs.lemmas.Bool.{eq-eqb}
use Rattle.std.proofs.lemmas.Bool.Decides.{eqb_tells}
use Rattle.std.proofs.lemmas.List.{length-map}
use Rattle.std.proofs.lemmas.Option.{slice_get_within}
use Rattle.std.specs.Prelude.{◌⊎◌, slice_get, Option, Some, None}
use Rattle.dq_base.specs.Headings.{Heading}
use Rattle.dq_base.specs.Limits.{cell_room}
use Rattle.dq_base.specs.Scripts.{step_of}
use Rattle.dq_base.specs.Versions.{Version}
use Rattle.dq_base.specs.declared.script.How.{How}
use Rattle.dq_base.specs.declared.script.Step.{Step}
use Rattle.dq_base.specs.declared.script.Step.TheVariants as step
use Rattle.dq_extract.proofs.Places.{FitsStep-segment_of}
use Rattle.dq_extract.specs.Loads.{LoadedFiles, IsLoaded, FitsStep, segment_of}
use Rattle.dq_journal.specs.Standing.{Rows, published, version_rows}
use Rattle.dq_machine.proofs.Bounds.{IsBounded, left-publish}
use Rattle.dq_machine.specs.Publishing.{is_publish, rows_in, versions_after}
use Rattle.dq_machine.specs.Refreshing.{AreStanding, CanRefresh, IsRefresh, RefreshedAt, no_stand, standing}
use Rattle.dq_machine.specs.State.{Publication, Work, no_work}

-- lists

slice_get-set_same : {X : Type 0} (xs : List X) (i : ℕ) (y : X) → i < length xs → slice_get (slice_set xs i y) i ≡ Some y
slice_get-set_same [] i y lt = absurd (omega arith)
slice_get-set_same (x ∷ xs) zero y lt = refl
slice_get-set_same (x ∷ xs) (suc i) y lt = slice_get-set_same xs i y (omega arith)

slice_get-set_other : {X : Type 0} (xs : List X) (i j : ℕ) (y : X) → i ≢ j → slice_get (slice_set xs i y) j ≡ slice_get xs j
slice_get-set_other [] i j y ne = refl
slice_get-set_other (x ∷ xs) zero zero y ne = absurd (ne refl)
slice_get-set_other (x ∷ xs) zero (suc j) y ne = refl
slice_get-set_other (x ∷ xs) (suc i) zero y ne = refl
slice_get-set_other (x ∷ xs) (suc i) (suc j) y ne = slice_get-set_other xs i j y (λ same. ne (ap suc same))

slice_get-map_some : {X Y : Type 0} (f : X → Y) (xs : List X) (i : ℕ) (x : X) → slice_get xs i ≡ Some x → slice_get (map f xs) i ≡ Some (f x)
slice_get-map_some f [] i x is = cc
slice_get-map_some f (y ∷ xs) zero x is = let same : y ≡ x = cc in ap (λ z. Some (f z)) same
slice_get-map_some f (y ∷ xs) (suc i) x is = slice_get-map_some f xs i x is

-- at first

pub AreStanding-start : (schemas : List Heading) → AreStanding schemas [] (map no_stand schemas)
AreStanding-start schemas = record {
  count = length-map schemas no_stand;
  each = λ source heading is. slice_get-map_some no_stand schemas source heading is;
}

-- a publication

standing_at : (schemas : List Heading) (versions : List Publication) (stands : List Version) (source : ℕ) (rows : Rows) (fresh : Version) (k : ℕ) (heading : Heading)
    → AreStanding schemas versions stands → source < length stands → fresh.rows ≡ rows → slice_get schemas source ≡ Some fresh.heading → slice_get schemas k ≡ Some heading
    → ((eqb source k ≡ true) × (source ≡ k)) ⊎ ((eqb source k ≡ false) × (source ≢ k))
    → slice_get (slice_set stands source fresh) k ≡ Some (standing (record { source = source; rows = rows } ∷ versions) k heading)
standing_at schemas versions stands source rows fresh k heading h lt rows_are under is (inl (told, same)) =
    let head : fresh.heading ≡ heading = let one = sym under ∙ ap (slice_get schemas) same ∙ is in cc in
    rw (← same) (slice_get-set_same stands source fresh lt ∙ rw (eq-eqb source source refl, ← rows_are, ← head) refl)
standing_at schemas versions stands source rows fresh k heading h lt rows_are under is (inr (told, apart)) =
    slice_get-set_other stands source k _ apart ∙ h.each k heading is ∙ rw told refl

AreStanding-set : (schemas : List Heading) (versions : List Publication) (stands : List Version) (source : ℕ) (rows : Rows) (fresh : Version)
    → AreStanding schemas versions stands → source < length stands → fresh.rows ≡ rows → slice_get schemas source ≡ Some fresh.heading
    → AreStanding schemas (record { source = source; rows = rows } ∷ versions) (slice_set stands source fresh)
AreStanding-set schemas versions stands source rows fresh h lt rows_are under = record {
  count = length-set stands source _ ∙ h.count;
  each = λ k heading is. standing_at schemas versions stands source rows fresh k heading h lt rows_are under is (eqb_tells source k);
}

-- what a refresh leaves
pub record IsPublished (schemas : List Heading) (versions : List Publication) (stands : List Version) (o : Option Step) (found : Option Version) (source : ℕ) (fresh : Version) : Type 0 where
  pub versions_are : record { source = source; rows = fresh.rows } ∷ versions ≡ versions_after versions (version_rows found) o
  pub stand : AreStanding schemas (record { source = source; rows = fresh.rows } ∷ versions) (slice_set stands source fresh)
  pub within : source < length stands

refreshed_at : (schemas : List Heading) (versions : List Publication) (stands : List Version) (source : ℕ) (how : How) (file : List ℕ) (v fresh : Version) (old : Option Version)
    → AreStanding schemas versions stands → slice_get stands source ≡ old → slice_get schemas source ≡ Some v.heading → RefreshedAt how old (Some v) fresh
    → IsPublished schemas versions stands (Some (step.Publish source how file)) (Some v) source fresh
refreshed_at schemas versions stands source how file v fresh None h stood under is = absurd is
refreshed_at schemas versions stands source how file v fresh (Some old) h stood under is =
    let same : Some old ≡ Some (standing versions source v.heading) = sym stood ∙ h.each source v.heading under in
    let old_is : old ≡ standing versions source v.heading = cc in
    let rows_are : fresh.rows ≡ published how (rows_in versions source) v.rows = is.1 ∙ ap (λ o. published how o.rows v.rows) old_is in
    let head : fresh.heading ≡ v.heading = is.0 ∙ ap (λ o. o.heading) old_is in
    let lt = slice_get_within stands source old stood in
    record {
      versions_are = ap (λ rows. record { source = source; rows = rows } ∷ versions) rows_are;
      stand = AreStanding-set schemas versions stands source fresh.rows fresh h lt refl (under ∙ ap (λ x. Some x) (sym head));
      within = lt;
    }

pub published_by : (schemas : List Heading) (versions : List Publication) (stands : List Version) (o : Option Step) (found : Option Version) (source : ℕ) (fresh : Version)
    → AreStanding schemas versions stands → FitsStep schemas o found → IsRefresh stands o found source fresh → IsPublished schemas versions stands o found source fresh
published_by schemas versions stands None found source fresh h fit is = absurd is
published_by schemas versions stands (Some (step.Batch zones)) found source fresh h fit is = absurd is
published_by schemas versions stands (Some (step.Publish k how file)) None source fresh h fit is = absurd fit
published_by schemas versions stands (Some (step.Publish k how file)) (Some v) source fresh h fit is =
    rw is.0 (refreshed_at schemas versions stands k how file v fresh (slice_get stands k) h refl fit is.1)

-- a publish step's segment joins what stands

joins_by : (l : LoadedFiles) (versions : List Publication) (works : List Work) (stands : List Version) (lane number : ℕ) (o : Option Step) (found : Option Version)
    → 0 < lane → lane ≤ length works → (get_or works (lane - 1) no_work).last < number → IsBounded l versions works → AreStanding l.script.schemas versions stands
    → step_of l.script.lanes lane number ≡ o → segment_of l lane number ≡ found → is_publish o ≡ true → FitsStep l.script.schemas o found → CanRefresh stands o found
joins_by l versions works stands lane number None found some within above bounded h at segment kind fits = cc
joins_by l versions works stands lane number (Some (step.Batch zones)) found some within above bounded h at segment kind fits = cc
joins_by l versions works stands lane number (Some (step.Publish source how file)) None some within above bounded h at segment kind fits = absurd fits
joins_by l versions works stands lane number (Some (step.Publish source how file)) (Some v) some within above bounded h at segment kind fits =
    let left = left-publish l works lane number source how file v (record (get_or works (lane - 1) no_work) { last = number }) some within above refl at segment in
    rw (h.each source v.heading fits) (record {
      heading = refl;
      cells = omega (arith, left, bounded.each source v.heading fits);
    })

pub CanRefresh-next : (l : LoadedFiles) (versions : List Publication) (works : List Work) (stands : List Version) (lane number : ℕ)
    → IsLoaded l → 0 < lane → lane ≤ length works → (get_or works (lane - 1) no_work).last < number → IsBounded l versions works → AreStanding l.script.schemas versions stands
    → is_publish (step_of l.script.lanes lane number) ≡ true → CanRefresh stands (step_of l.script.lanes lane number) (segment_of l lane number)
CanRefresh-next l versions works stands lane number loaded some within above bounded h kind =
    joins_by l versions works stands lane number (step_of l.script.lanes lane number) (segment_of l lane number) some within above bounded h refl refl kind (FitsStep-segment_of l lane number loaded)
