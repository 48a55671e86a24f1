-- All zones are answered.
use Rattle.std.proofs.Common.{◌≡◌, ℕ, suc, List, [], ◌∷◌, length, slice_get, Option, Some, None, option_and_then, refl, ap, sym, subst, ◌∙◌, arith}
use Rattle.std.specs.List.{enumerate_from}
use Rattle.dq_base.specs.Answers.{answer}
use Rattle.dq_base.specs.Batches as batches
use Rattle.dq_base.specs.Canonical.{canonical}
use Rattle.dq_base.specs.Headings.{Heading}
use Rattle.dq_base.specs.Validity.{invalid_by}
use Rattle.dq_base.specs.declared.canon.Role.{Role}
use Rattle.dq_base.specs.declared.canon.Role.TheVariants.{Remote, Local}
use Rattle.dq_base.specs.declared.cell.Cell.{Cell}
use Rattle.dq_base.specs.declared.invalid.Invalid.{Invalid}
use Rattle.dq_base.specs.declared.query.Query.{Query}
use Rattle.dq_journal.specs.Steps.{AreRefused}
use Rattle.dq_journal.specs.Standing.{Rows}
use Rattle.dq_journal.specs.declared.entry.Entry.{Entry}
use Rattle.dq_journal.specs.declared.result.ZoneResult.{ZoneResult}
use Rattle.dq_journal.specs.declared.result.ZoneResult.TheVariants as zone
use Rattle.dq_machine.specs.Owning.{Fate, Origin, fate, origin_of, over_zones, spread, valid_origins, valid_places}
use Rattle.dq_machine.specs.Preparing.{canons_of}
use Rattle.dq_machine.specs.Right.{AreEach, AreLed, AreOutcomes, IsLed, IsOutcome}
use Rattle.dq_query.proofs.SameAnswer.{same_answer}
use Rattle.dq_zones.specs.Answering.{AreFetched, AreRolled, AreTold, BatchOf, IsTold, outcome_at, origins_of, roles_of, valid_outcomes}
use Rattle.dq_zones.proofs.Lists.{got_numbered, length_numbered, within_got}
use Rattle.dq_zones.proofs.Slots.{canons_invalid, canons_valid, outcomes_invalid, outcomes_valid, over_invalid, over_valid, slot, told_refused}

-- nothing is answered yet
pub fetched_first : (b : BatchOf) (zs : List ZoneResult) → AreRefused b.schemas b.zones zs → AreFetched b 0 zs
fetched_first b zs h = record {
  told = told_refused b.schemas b.zones zs h;
  remotes = λ place lt r. absurd (omega (arith, lt));
}

-- zones that tell their reason

told_outcome : (reason : Invalid) (x : Fate) (want : List (List Cell)) (z : ZoneResult) → z ≡ zone.Invalid reason → IsOutcome (Some reason) x want z
told_outcome reason x want z told = rw told refl

outcome_told : (o : Option Invalid) (reason : Invalid) (x : Fate) (want : List (List Cell)) (z : ZoneResult) → o ≡ Some reason → IsTold o z → IsOutcome o x want z
outcome_told o reason x want z e told =
    let P : Option Invalid → Type 0 = λ r. IsTold r z in
    let Q : Option Invalid → Type 0 = λ r. IsOutcome r x want z in
    subst Q (sym e) (told_outcome reason x want z (subst P e told))

-- each outcome is right, where those of the valid zones are
module _ (schemas : List Heading) (rows : ℕ → Rows) (journal : List Entry) where
  abbrev EachOf : List Query → List ZoneResult → List Origin → Type 0
  EachOf qs zs os =
      (j : ℕ) (o : Origin) (c : Query) (z : ZoneResult) → slice_get os j ≡ Some o → slice_get (canons_of schemas qs) j ≡ Some c → slice_get (valid_outcomes schemas qs zs) j ≡ Some z
      → IsOutcome None (fate journal o.own) (answer c (rows c.source)) z

  module _ (q : Query) (qs : List Query) (z : ZoneResult) (zs : List ZoneResult) (told : AreTold schemas (q ∷ qs) (z ∷ zs)) where
    module _ (e : invalid_by schemas q ≡ None) (o : Origin) (os : List Origin) (each : EachOf (q ∷ qs) (z ∷ zs) (o ∷ os)) where
      head_right : IsOutcome (invalid_by schemas q) (fate journal o.own) (answer q (rows q.source)) z
      head_right =
          let canon : slice_get (canons_of schemas (q ∷ qs)) 0 ≡ Some (canonical q) = ap (λ cs. slice_get cs 0) (canons_valid schemas q qs e) in
          let there : slice_get (valid_outcomes schemas (q ∷ qs) (z ∷ zs)) 0 ≡ Some z = ap (λ vs. slice_get vs 0) (outcomes_valid schemas q qs e z zs) in
          let P : Option Invalid → Type 0 = λ r. IsOutcome r (fate journal o.own) (answer q (rows q.source)) z in
          let Q : List (List Cell) → Type 0 = λ want. IsOutcome None (fate journal o.own) want z in
          subst P (sym e) (subst Q (same_answer q (rows q.source)) (each 0 o (canonical q) z refl canon there))

      each_behind : EachOf qs zs os
      each_behind = λ j p c y at canon there.
          each (suc j) p c y at (ap (λ cs. slice_get cs (suc j)) (canons_valid schemas q qs e) ∙ canon) (ap (λ vs. slice_get vs (suc j)) (outcomes_valid schemas q qs e z zs) ∙ there)

    each_beside : (reason : Invalid) → invalid_by schemas q ≡ Some reason → (os : List Origin) → EachOf (q ∷ qs) (z ∷ zs) os → EachOf qs zs os
    each_beside reason e os each = λ j p c y at canon there.
        each j p c y at (ap (λ cs. slice_get cs j) (canons_invalid schemas q qs reason e) ∙ canon) (ap (λ vs. slice_get vs j) (outcomes_invalid schemas q qs reason e z zs) ∙ there)

    abbrev AllOf : List Origin → Type 0
    AllOf os = AreEach schemas rows journal (over_zones schemas (q ∷ qs) os) (q ∷ qs) (z ∷ zs)

    abbrev RestOf : Type 0
    RestOf = (os : List Origin) → length os ≡ length (canons_of schemas qs) → EachOf qs zs os → AreEach schemas rows journal (over_zones schemas qs os) qs zs

    each_by : (reason : Option Invalid) → invalid_by schemas q ≡ reason → (os : List Origin) → length os ≡ length (canons_of schemas (q ∷ qs)) → EachOf (q ∷ qs) (z ∷ zs) os → RestOf → AllOf os
    each_by None e [] many each rest = let more = ap length (canons_valid schemas q qs e) in absurd (omega (arith, many, more))
    each_by None e (o ∷ os) many each rest =
        let more = ap length (canons_valid schemas q qs e) in
        let P : List Origin → Type 0 = λ ps. AreEach schemas rows journal ps (q ∷ qs) (z ∷ zs) in
        subst P (sym (over_valid schemas q qs e o os)) (head_right e o os each, rest os (omega (arith, many, more)) (each_behind e o os each))
    each_by (Some reason) e [] many each rest =
        let less = ap length (canons_invalid schemas q qs reason e) in
        (outcome_told (invalid_by schemas q) reason (fate journal None) (answer q (rows q.source)) z e told.0, rest [] (many ∙ less) (each_beside reason e [] each))
    each_by (Some reason) e (o ∷ os) many each rest =
        let less = ap length (canons_invalid schemas q qs reason e) in
        let P : List Origin → Type 0 = λ ps. AreEach schemas rows journal ps (q ∷ qs) (z ∷ zs) in
        subst P (sym (over_invalid schemas q qs reason e o os))
        (outcome_told (invalid_by schemas q) reason (fate journal None) (answer q (rows q.source)) z e told.0, rest (o ∷ os) (many ∙ less) (each_beside reason e (o ∷ os) each))

  each_over : (qs : List Query) (zs : List ZoneResult) (os : List Origin) → AreTold schemas qs zs → length os ≡ length (canons_of schemas qs) → EachOf qs zs os
      → AreEach schemas rows journal (over_zones schemas qs os) qs zs
  each_over [] [] os told many each = tt
  each_over [] (z ∷ zs) os told many each = absurd told
  each_over (q ∷ qs) [] os told many each = absurd told
  each_over (q ∷ qs) (z ∷ zs) os told many each = each_by q qs z zs told (invalid_by schemas q) refl os many each (λ ps. each_over qs zs ps told.1)

-- and led
module _ (schemas : List Heading) (all : List ZoneResult) where
  abbrev LedOf : List Query → List ZoneResult → List Origin → Type 0
  LedOf qs zs os = (j : ℕ) (o : Origin) (z : ZoneResult) → slice_get os j ≡ Some o → slice_get (valid_outcomes schemas qs zs) j ≡ Some z → IsLed (option_and_then (slice_get all) o.leader) z

  module _ (q : Query) (qs : List Query) (z : ZoneResult) (zs : List ZoneResult) where
    led_by : (reason : Option Invalid) → invalid_by schemas q ≡ reason → (o : Origin) (os : List Origin) → LedOf (q ∷ qs) (z ∷ zs) (o ∷ os)
        → ((ps : List Origin) → LedOf qs zs ps → AreLed all (over_zones schemas qs ps) zs) → AreLed all (over_zones schemas (q ∷ qs) (o ∷ os)) (z ∷ zs)
    led_by None e o os led rest =
        let P : List Origin → Type 0 = λ ps. AreLed all ps (z ∷ zs) in
        let first : slice_get (valid_outcomes schemas (q ∷ qs) (z ∷ zs)) 0 ≡ Some z = ap (λ vs. slice_get vs 0) (outcomes_valid schemas q qs e z zs) in
        subst P (sym (over_valid schemas q qs e o os))
        (led 0 o z refl first, rest os (λ j p y at there. led (suc j) p y at (ap (λ vs. slice_get vs (suc j)) (outcomes_valid schemas q qs e z zs) ∙ there)))
    led_by (Some reason) e o os led rest =
        let P : List Origin → Type 0 = λ ps. AreLed all ps (z ∷ zs) in
        subst P (sym (over_invalid schemas q qs reason e o os))
        (tt, rest (o ∷ os) (λ j p y at there. led j p y at (ap (λ vs. slice_get vs j) (outcomes_invalid schemas q qs reason e z zs) ∙ there)))

  led_none : (qs : List Query) (zs : List ZoneResult) → LedOf qs zs []
  led_none qs zs = λ j o z at there. cc

  led_over : (qs : List Query) (zs : List ZoneResult) (os : List Origin) → AreTold schemas qs zs → LedOf qs zs os → AreLed all (over_zones schemas qs os) zs
  led_over [] [] os told led = tt
  led_over [] (z ∷ zs) os told led = absurd told
  led_over (q ∷ qs) [] os told led = absurd told
  led_over (q ∷ qs) (z ∷ zs) [] told led = (tt, led_over qs zs [] told.1 (led_none qs zs))
  led_over (q ∷ qs) (z ∷ zs) (o ∷ os) told led = led_by q qs z zs (invalid_by schemas q) refl o os led (λ ps. led_over qs zs ps told.1)

-- the whole batch
module _ (b : BatchOf) (zs : List ZoneResult) (done : AreRolled b (length (roles_of b)) zs) where
  abbrev places : List ℕ
  places = valid_places b.schemas 0 b.zones

  abbrev owns : List (Option ℕ)
  owns = spread (roles_of b) b.owns

  right_at : (j : ℕ) (role : Role) (c : Query) (z : ZoneResult) → slice_get (roles_of b) j ≡ Some role → slice_get (canons_of b.schemas b.zones) j ≡ Some c → outcome_at b zs j ≡ Some z
      → IsOutcome None (fate b.journal (origin_of owns places j role).own) (answer c (b.rows c.source)) z
  right_at j Remote c z r canon there = done.remotes j r c z canon there
  right_at j (Local source) c z r canon there = (done.locals j source (within_got (roles_of b) j (Local source) r) r).0 c z canon there

  led_place : (source : ℕ) (o : Option ℕ) (z : ZoneResult) → slice_get places source ≡ o → IsLed (outcome_at b zs source) z → IsLed (option_and_then (slice_get zs) o) z
  led_place source None z at led = tt
  led_place source (Some k) z at led =
      let P : Option ZoneResult → Type 0 = λ o. IsLed o z in
      subst P (slot b.schemas b.zones zs source k done.told at).read led

  led_at : (j : ℕ) (role : Role) (z : ZoneResult) → slice_get (roles_of b) j ≡ Some role → outcome_at b zs j ≡ Some z → IsLed (option_and_then (slice_get zs) (origin_of owns places j role).leader) z
  led_at j Remote z r there = tt
  led_at j (Local source) z r there = led_place source (slice_get places source) z refl ((done.locals j source (within_got (roles_of b) j (Local source) r) r).1 z there)

  abbrev origin : ℕ × Role → Origin
  origin p = origin_of owns places p.0 p.1

  many_origins : length (valid_origins (roles_of b) b.owns places) ≡ length (canons_of b.schemas b.zones)
  many_origins =
      length_numbered origin 0 (roles_of b)
      ∙ length_numbered (batches.role_of (enumerate_from 0 (canons_of b.schemas b.zones))) 0 (canons_of b.schemas b.zones)

  pub answered : AreOutcomes b.schemas b.rows b.journal (origins_of b) b.zones zs
  answered = record {
    each = each_over b.schemas b.rows b.journal b.zones zs (valid_origins (roles_of b) b.owns places) done.told many_origins (λ j o c z at canon there.
        let w = got_numbered origin (roles_of b) j o at in
        let P : Origin → Type 0 = λ p. IsOutcome None (fate b.journal p.own) (answer c (b.rows c.source)) z in
        subst P w.2 (right_at j w.0 c z w.1 canon there));
    led = led_over b.schemas zs b.zones zs (valid_origins (roles_of b) b.owns places) done.told (λ j o z at there.
        let w = got_numbered origin (roles_of b) j o at in
        let P : Origin → Type 0 = λ p. IsLed (option_and_then (slice_get zs) p.leader) z in
        subst P w.2 (led_at j w.0 z w.1 there));
  }
