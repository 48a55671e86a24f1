-- The outcomes of the valid zones among those of all.
use Rattle.std.proofs.Common.{◌≡◌, ℕ, zero, suc, ◌+◌, ◌-◌, ◌<◌, ◌≤◌, cond, List, [], ◌∷◌, length, map, filter, slice_get, slice_set, is_none, Option, Some, None, refl, ap, sym, subst, ◌∙◌, arith}
use Rattle.std.specs.Prelude.{if◌then◌else◌}
use Rattle.dq_base.specs.Canonical.{canonical}
use Rattle.dq_base.specs.Headings.{Heading}
use Rattle.dq_base.specs.Validity.{invalid_by}
use Rattle.dq_base.specs.declared.invalid.Invalid.{Invalid}
use Rattle.dq_base.specs.declared.query.Query.{Query}
use Rattle.dq_journal.specs.Steps.{AreRefused, IsRefused}
use Rattle.dq_journal.specs.declared.result.ZoneResult.{ZoneResult}
use Rattle.dq_journal.specs.declared.result.ZoneResult.TheVariants as zone
use Rattle.dq_machine.specs.Owning.{Origin, no_origin, over_zones, valid_places}
use Rattle.dq_machine.specs.Preparing.{canons_of, is_valid}
use Rattle.dq_zones.specs.Answering.{AreTold, IsTold, valid_outcomes}
use Rattle.dq_zones.proofs.Lists.{some_same}

-- outcomes of a refused batch tell the reasons

told_by : (reason : Option Invalid) (z : ZoneResult) → IsRefused reason z → IsTold reason z
told_by None (zone.Rows table) h = tt
told_by None (zone.Invalid told) h = tt
told_by None zone.BackEnd h = tt
told_by None zone.Memory h = tt
told_by (Some reason) (zone.Rows table) h = absurd h
told_by (Some reason) (zone.Invalid told) h = ap (λ (r : Invalid). zone.Invalid r) (sym (some_same reason told h))
told_by (Some reason) zone.BackEnd h = absurd h
told_by (Some reason) zone.Memory h = cc

pub told_refused : (schemas : List Heading) (qs : List Query) (zs : List ZoneResult) → AreRefused schemas qs zs → AreTold schemas qs zs
told_refused schemas [] [] h = tt
told_refused schemas [] (z ∷ zs) h = absurd h
told_refused schemas (q ∷ qs) [] h = absurd h
told_refused schemas (q ∷ qs) (z ∷ zs) h = (told_by (invalid_by schemas q) z h.0, told_refused schemas qs zs h.1)

-- whether the first zone is valid

module _ (schemas : List Heading) (q : Query) (qs : List Query) where
  module _ (e : invalid_by schemas q ≡ None) where
    pub outcomes_valid : (z : ZoneResult) (zs : List ZoneResult) → valid_outcomes schemas (q ∷ qs) (z ∷ zs) ≡ z ∷ valid_outcomes schemas qs zs
    outcomes_valid z zs = ap (λ (r : Option Invalid). if is_none r then z ∷ valid_outcomes schemas qs zs else valid_outcomes schemas qs zs) e

    pub canons_valid : canons_of schemas (q ∷ qs) ≡ canonical q ∷ canons_of schemas qs
    canons_valid = ap (λ (r : Option Invalid). map canonical (cond (is_none r) (q ∷ filter (is_valid schemas) qs) (filter (is_valid schemas) qs))) e

    pub over_valid : (o : Origin) (os : List Origin) → over_zones schemas (q ∷ qs) (o ∷ os) ≡ o ∷ over_zones schemas qs os
    over_valid o os = ap (λ (r : Option Invalid). if is_none r then o ∷ over_zones schemas qs os else no_origin ∷ over_zones schemas qs (o ∷ os)) e

    pub places_valid : (n : ℕ) → valid_places schemas n (q ∷ qs) ≡ n ∷ valid_places schemas (n + 1) qs
    places_valid n = ap (λ (r : Option Invalid). if is_none r then n ∷ valid_places schemas (n + 1) qs else valid_places schemas (n + 1) qs) e

  module _ (reason : Invalid) (e : invalid_by schemas q ≡ Some reason) where
    pub outcomes_invalid : (z : ZoneResult) (zs : List ZoneResult) → valid_outcomes schemas (q ∷ qs) (z ∷ zs) ≡ valid_outcomes schemas qs zs
    outcomes_invalid z zs = ap (λ (r : Option Invalid). if is_none r then z ∷ valid_outcomes schemas qs zs else valid_outcomes schemas qs zs) e

    pub canons_invalid : canons_of schemas (q ∷ qs) ≡ canons_of schemas qs
    canons_invalid = ap (λ (r : Option Invalid). map canonical (cond (is_none r) (q ∷ filter (is_valid schemas) qs) (filter (is_valid schemas) qs))) e

    pub over_invalid : (o : Origin) (os : List Origin) → over_zones schemas (q ∷ qs) (o ∷ os) ≡ no_origin ∷ over_zones schemas qs (o ∷ os)
    over_invalid o os = ap (λ (r : Option Invalid). if is_none r then o ∷ over_zones schemas qs os else no_origin ∷ over_zones schemas qs (o ∷ os)) e

    pub places_invalid : (n : ℕ) → valid_places schemas n (q ∷ qs) ≡ valid_places schemas (n + 1) qs
    places_invalid n = ap (λ (r : Option Invalid). if is_none r then n ∷ valid_places schemas (n + 1) qs else valid_places schemas (n + 1) qs) e

-- as many places as queries

places_by : (schemas : List Heading) (q : Query) (qs : List Query) (n : ℕ) (reason : Option Invalid) → invalid_by schemas q ≡ reason
    → length (canons_of schemas qs) ≡ length (valid_places schemas (n + 1) qs) → length (canons_of schemas (q ∷ qs)) ≡ length (valid_places schemas n (q ∷ qs))
places_by schemas q qs n None e h = ap length (canons_valid schemas q qs e) ∙ ap suc h ∙ sym (ap length (places_valid schemas q qs e n))
places_by schemas q qs n (Some reason) e h = ap length (canons_invalid schemas q qs reason e) ∙ h ∙ sym (ap length (places_invalid schemas q qs reason e n))

pub length_places : (schemas : List Heading) (n : ℕ) (qs : List Query) → length (canons_of schemas qs) ≡ length (valid_places schemas n qs)
length_places schemas n [] = refl
length_places schemas n (q ∷ qs) = places_by schemas q qs n (invalid_by schemas q) refl (length_places schemas (n + 1) qs)

-- the outcome of the valid zone at j stands at k among those of all
pub record IsSlot (schemas : List Heading) (qs : List Query) (zs : List ZoneResult) (j k : ℕ) : Type 0 where
  pub within : k < length zs
  pub read : slice_get (valid_outcomes schemas qs zs) j ≡ slice_get zs k
  pub write : (z : ZoneResult) → valid_outcomes schemas qs (slice_set zs k z) ≡ slice_set (valid_outcomes schemas qs zs) j z
  pub told : (z : ZoneResult) → AreTold schemas qs (slice_set zs k z)

module _ (schemas : List Heading) (q : Query) (qs : List Query) (y : ZoneResult) (zs : List ZoneResult) (t : AreTold schemas (q ∷ qs) (y ∷ zs)) where
  first_slot : invalid_by schemas q ≡ None → IsSlot schemas (q ∷ qs) (y ∷ zs) 0 0
  first_slot e = record {
    within = omega arith;
    read = ap (λ vs. slice_get vs 0) (outcomes_valid schemas q qs e y zs);
    write = λ z. outcomes_valid schemas q qs e z zs ∙ sym (ap (λ vs. slice_set vs 0 z) (outcomes_valid schemas q qs e y zs));
    told = λ z. (rw e tt, t.1);
  }

  later_slot : (j k : ℕ) → invalid_by schemas q ≡ None → IsSlot schemas qs zs j k → IsSlot schemas (q ∷ qs) (y ∷ zs) (suc j) (suc k)
  later_slot j k e h = record {
    within = omega (arith, h.within);
    read = ap (λ vs. slice_get vs (suc j)) (outcomes_valid schemas q qs e y zs) ∙ h.read;
    write = λ z. outcomes_valid schemas q qs e y (slice_set zs k z) ∙ ap (λ vs. y ∷ vs) (h.write z) ∙ sym (ap (λ vs. slice_set vs (suc j) z) (outcomes_valid schemas q qs e y zs));
    told = λ z. (t.0, h.told z);
  }

  other_slot : (j k : ℕ) (reason : Invalid) → invalid_by schemas q ≡ Some reason → IsSlot schemas qs zs j k → IsSlot schemas (q ∷ qs) (y ∷ zs) j (suc k)
  other_slot j k reason e h = record {
    within = omega (arith, h.within);
    read = ap (λ vs. slice_get vs j) (outcomes_invalid schemas q qs reason e y zs) ∙ h.read;
    write = λ z. outcomes_invalid schemas q qs reason e y (slice_set zs k z) ∙ h.write z ∙ sym (ap (λ vs. slice_set vs j z) (outcomes_invalid schemas q qs reason e y zs));
    told = λ z. (t.0, h.told z);
  }

  abbrev Stands : ℕ → ℕ → ℕ → Type 0
  Stands n j p = (n ≤ p) × IsSlot schemas (q ∷ qs) (y ∷ zs) j (p - n)

  abbrev Rest : ℕ → ℕ → Type 0
  Rest n p = (i : ℕ) → slice_get (valid_places schemas (n + 1) qs) i ≡ Some p → (n + 1 ≤ p) × IsSlot schemas qs zs i (p - (n + 1))

  slot_by : (n j p : ℕ) (reason : Option Invalid) → invalid_by schemas q ≡ reason → slice_get (if is_none reason then n ∷ valid_places schemas (n + 1) qs else valid_places schemas (n + 1) qs) j ≡ Some p
      → Rest n p → Stands n j p
  slot_by n zero p None e at rest =
      let same : n ≡ p = some_same n p at in
      let first : 0 ≡ p - n = omega (arith, same) in
      (omega (arith, same), subst (IsSlot schemas (q ∷ qs) (y ∷ zs) 0) first (first_slot e))
  slot_by n (suc j) p None e at rest =
      let h = rest j at in
      let later : suc (p - (n + 1)) ≡ p - n = omega (arith, h.0) in
      (omega (arith, h.0), subst (IsSlot schemas (q ∷ qs) (y ∷ zs) (suc j)) later (later_slot j (p - (n + 1)) e h.1))
  slot_by n j p (Some reason) e at rest =
      let h = rest j at in
      let later : suc (p - (n + 1)) ≡ p - n = omega (arith, h.0) in
      (omega (arith, h.0), subst (IsSlot schemas (q ∷ qs) (y ∷ zs) j) later (other_slot j (p - (n + 1)) reason e h.1))

slot_from : (schemas : List Heading) (qs : List Query) (zs : List ZoneResult) (n j p : ℕ) → AreTold schemas qs zs → slice_get (valid_places schemas n qs) j ≡ Some p
    → (n ≤ p) × IsSlot schemas qs zs j (p - n)
slot_from schemas [] zs n j p t at = cc
slot_from schemas (q ∷ qs) [] n j p t at = absurd t
slot_from schemas (q ∷ qs) (y ∷ zs) n j p t at = slot_by schemas q qs y zs t n j p (invalid_by schemas q) refl at (λ i. slot_from schemas qs zs (n + 1) i p t.1)

pub slot : (schemas : List Heading) (qs : List Query) (zs : List ZoneResult) (j k : ℕ) → AreTold schemas qs zs → slice_get (valid_places schemas 0 qs) j ≡ Some k → IsSlot schemas qs zs j k
slot schemas qs zs j k t at =
    let same : k - 0 ≡ k = omega arith in
    subst (IsSlot schemas qs zs j) same (slot_from schemas qs zs 0 j k t at).1
