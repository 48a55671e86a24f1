-- One zone more is answered.
use Rattle.std.proofs.Common.{◌≡◌, ◌≢◌, ℕ, ◌+◌, ◌<◌, ◌≤◌, true, false, eqb, List, length, slice_get, slice_set, Option, Some, None, refl, ap, sym, subst, ◌∙◌, arith, inl, inr}
use Rattle.std.proofs.lemmas.Bool.{eqb-true}
use Rattle.std.proofs.lemmas.Bool.Decides.{eqb_tells}
use Rattle.std.specs.Prelude.{◌⊎◌}
use Rattle.dq_base.specs.Answers.{answer}
use Rattle.dq_base.specs.Covering.{covers}
use Rattle.dq_base.specs.declared.canon.Role.{Role}
use Rattle.dq_base.specs.declared.canon.Role.TheVariants.{Remote, Local}
use Rattle.dq_base.specs.declared.query.Query.{Query}
use Rattle.dq_cover.proofs.CoverLaws.{and_left}
use Rattle.dq_graph.proofs.Sources.{sources_right}
use Rattle.dq_graph.specs.Splits.{covered_by}
use Rattle.dq_graph.specs.declared.prepared.Prepared.{Prepared}
use Rattle.dq_journal.specs.declared.result.ZoneResult.{ZoneResult}
use Rattle.dq_machine.specs.Owning.{fate, valid_places}
use Rattle.dq_machine.specs.Preparing.{canons_of}
use Rattle.dq_machine.specs.Right.{IsLed, IsOutcome}
use Rattle.dq_zones.specs.Answering.{AreFetched, AreRolled, AreTold, BatchOf, IsBatch, IsFetched, IsLedAt, IsLedFrom, IsRightAt, outcome_at, own_at, rank, roles_of, valid_outcomes}
use Rattle.dq_zones.specs.declared.fetch.Fetch.{Fetch}
use Rattle.dq_zones.proofs.Lists.{got_other, got_set, got_within, place_of, numbered_at, some_same, within_got}
use Rattle.dq_zones.proofs.Ranks.{brought_at}
use Rattle.dq_zones.proofs.Slots.{IsSlot, length_places, slot}

-- queries

source_same : (p q : Query) → covers p q ≡ true → p.source ≡ q.source
source_same p q h = eqb-true p.source q.source (and_left _ _ (and_left _ _ (and_left _ _ (and_left _ _ (and_left _ _ h)))))

covering : (o : Option Query) (q : Query) → covered_by o (Some q) ≡ true → (p : Query) × (o ≡ Some p) × (covers p q ≡ true)
covering None q h = cc
covering (Some p) q h = (p, refl, h)

pub covered_both : (o n : Option Query) (p q : Query) → o ≡ Some p → n ≡ Some q → covered_by o n ≡ true → covers p q ≡ true
covered_both None n p q e f h = cc
covered_both (Some a) None p q e f h = cc
covered_both (Some a) (Some c) p q e f h =
    let first : a ≡ p = some_same a p e in
    let second : c ≡ q = some_same c q f in
    sym (ap (λ (k : Query). covers k c) first ∙ ap (covers p) second) ∙ h

apart : (rs : List Role) (i j source : ℕ) → slice_get rs i ≡ Some Remote → slice_get rs j ≡ Some (Local source) → i ≢ j
apart rs i j source r l = λ same. let e : slice_get rs i ≡ slice_get rs j = ap (slice_get rs) same in cc

same_source : (rs : List Role) (i j s t : ℕ) → i ≡ j → slice_get rs i ≡ Some (Local s) → slice_get rs j ≡ Some (Local t) → s ≡ t
same_source rs i j s t same l m = let e : slice_get rs i ≡ slice_get rs j = ap (slice_get rs) same in cc

-- an outcome is set
module _ (b : BatchOf) (zs zs' : List ZoneResult) (place slot : ℕ) (z : ZoneResult) (set : zs' ≡ slice_set zs slot z) (at : IsSlot b.schemas b.zones zs place slot) where
  after : valid_outcomes b.schemas b.zones zs' ≡ slice_set (valid_outcomes b.schemas b.zones zs) place z
  after = ap (valid_outcomes b.schemas b.zones) set ∙ at.write z

  here : (y : ZoneResult) → outcome_at b zs' place ≡ Some y → y ≡ z
  here y there = got_set (valid_outcomes b.schemas b.zones zs) place y z (sym (ap (λ vs. slice_get vs place) after) ∙ there)

  elsewhere : (k : ℕ) → k ≢ place → outcome_at b zs' k ≡ outcome_at b zs k
  elsewhere k ne = ap (λ vs. slice_get vs k) after ∙ got_other (valid_outcomes b.schemas b.zones zs) place k z ne

  stays_right : (source k : ℕ) → k ≢ place → IsRightAt b zs source k → IsRightAt b zs' source k
  stays_right source k ne h = λ q y is there. h q y is (sym (elsewhere k ne) ∙ there)

  stays_led : (source k : ℕ) → source ≢ place → k ≢ place → IsLedAt b zs source k → IsLedAt b zs' source k
  stays_led source k sn ne h = λ y there.
      let P : Option ZoneResult → Type 0 = λ o. IsLed o y in
      subst P (sym (elsewhere source sn)) (h y (sym (elsewhere k ne) ∙ there))

-- a remote zone
module _ (b : BatchOf) (p : Prepared) (fetches : List Fetch) (zs zs' : List ZoneResult) (place next slot_is : ℕ) (z : ZoneResult) (is : IsBatch b p fetches) where
  at_place : AreFetched b place zs → slice_get p.zones place ≡ Some (slot_is + 1) → IsSlot b.schemas b.zones zs place slot_is
  at_place done at = slot b.schemas b.zones zs place slot_is done.told (place_of (valid_places b.schemas 0 b.zones) place slot_is (sym (ap (λ ns. slice_get ns place) is.zones) ∙ at))

  module _ (done : AreFetched b place zs) (role : slice_get p.roles place ≡ Some Remote) (number : next ≡ rank p.roles place) (at : slice_get p.zones place ≡ Some (slot_is + 1))
      (what : (q : Query) (f : Fetch) → slice_get p.canons place ≡ Some q → slice_get fetches next ≡ Some f → IsFetched q f z) (set : zs' ≡ slice_set zs slot_is z) where
    remote : slice_get (roles_of b) place ≡ Some Remote
    remote = sym (ap (λ rs. slice_get rs place) is.roles) ∙ role

    fetched_here : IsRightAt b zs' place place
    fetched_here = λ q y canon there.
        let w = brought_at b.rows b.journal (roles_of b) b.owns (canons_of b.schemas b.zones) fetches place q is.brought remote canon in
        let n : rank (roles_of b) place ≡ next = sym (number ∙ ap (λ rs. rank rs place) is.roles) in
        let fetch : slice_get fetches next ≡ Some w.0 = sym (ap (slice_get fetches) n) ∙ w.1 in
        let own : slice_get p.canons place ≡ Some q = ap (λ cs. slice_get cs place) is.canons ∙ canon in
        let P : ZoneResult → Type 0 = λ v. IsOutcome None (fate b.journal (own_at b place)) (answer q (b.rows q.source)) v in
        subst P (sym (here b zs zs' place slot_is z set (at_place done at) y there)) (what q w.0 own fetch (fate b.journal (own_at b place)) (b.rows q.source) w.2)

    fetched_by : (k : ℕ) → k < place + 1 → slice_get (roles_of b) k ≡ Some Remote → ((eqb k place ≡ true) × (k ≡ place)) ⊎ ((eqb k place ≡ false) × (k ≢ place)) → IsRightAt b zs' k k
    fetched_by k lt r (inl (told, same)) = let P : ℕ → Type 0 = λ n. IsRightAt b zs' n n in subst P (sym same) fetched_here
    fetched_by k lt r (inr (told, ne)) =
        let before : k < place = omega (arith, lt, ne) in
        stays_right b zs zs' place slot_is z set (at_place done at) k k ne (done.remotes k before r)

    pub fetched_more : AreFetched b (place + 1) zs'
    fetched_more = record {
      told = let P : List ZoneResult → Type 0 = λ ys. AreTold b.schemas b.zones ys in subst P (sym set) ((at_place done at).told z);
      remotes = λ k lt r. fetched_by k lt r (eqb_tells k place);
    }

-- a local zone
module _ (b : BatchOf) (p : Prepared) (fetches : List Fetch) (zs zs' : List ZoneResult) (place source slot_is : ℕ) (z : ZoneResult) (is : IsBatch b p fetches) (done : AreRolled b place zs)
    (role : slice_get p.roles place ≡ Some (Local source)) (at : slice_get p.zones place ≡ Some (slot_is + 1))
    (what : (c q : Query) (leader : ZoneResult) (k : ℕ) → slice_get p.canons source ≡ Some c → slice_get p.canons place ≡ Some q → slice_get p.zones source ≡ Some (k + 1) → slice_get zs k ≡ Some leader
    → IsLedFrom c q leader z)
    (set : zs' ≡ slice_set zs slot_is z) where
  at_slot : IsSlot b.schemas b.zones zs place slot_is
  at_slot = slot b.schemas b.zones zs place slot_is done.told (place_of (valid_places b.schemas 0 b.zones) place slot_is (sym (ap (λ ns. slice_get ns place) is.zones) ∙ at))

  local : slice_get (roles_of b) place ≡ Some (Local source)
  local = sym (ap (λ rs. slice_get rs place) is.roles) ∙ role

  is_remote : slice_get (roles_of b) source ≡ Some Remote
  is_remote = (sources_right (canons_of b.schemas b.zones) place (Local source) local).0

  not_here : source ≢ place
  not_here = apart (roles_of b) source place source is_remote local

  covered : (q : Query) → slice_get (canons_of b.schemas b.zones) place ≡ Some q → (c : Query) × (slice_get (canons_of b.schemas b.zones) source ≡ Some c) × (covers c q ≡ true)
  covered q canon =
      let h = (sources_right (canons_of b.schemas b.zones) place (Local source) local).1 in
      let P : Option Query → Type 0 = λ o. covered_by (slice_get (canons_of b.schemas b.zones) source) o ≡ true in
      covering (slice_get (canons_of b.schemas b.zones) source) q (subst P canon h)

  -- the outcome of the source
  led_from : (q : Query) → slice_get (canons_of b.schemas b.zones) place ≡ Some q
      → (c : Query) × (leader : ZoneResult) × (slice_get (canons_of b.schemas b.zones) source ≡ Some c) × (covers c q ≡ true) × (outcome_at b zs source ≡ Some leader) × IsLedFrom c q leader z
  led_from q canon =
      let w = covered q canon in
      let below : source < length (canons_of b.schemas b.zones) = within_got (canons_of b.schemas b.zones) source w.0 w.1 in
      let many = length_places b.schemas 0 b.zones in
      let k = got_within (valid_places b.schemas 0 b.zones) source (omega (arith, below, many)) in
      let s = slot b.schemas b.zones zs source k.0 done.told k.1 in
      let l = got_within zs k.0 s.within in
      let own : slice_get p.canons source ≡ Some w.0 = ap (λ cs. slice_get cs source) is.canons ∙ w.1 in
      let asked : slice_get p.canons place ≡ Some q = ap (λ cs. slice_get cs place) is.canons ∙ canon in
      let number : slice_get p.zones source ≡ Some (k.0 + 1) = ap (λ ns. slice_get ns source) is.zones ∙ numbered_at (valid_places b.schemas 0 b.zones) source k.0 k.1 in
      (w.0, l.0, w.1, w.2, s.read ∙ l.1, what w.0 q l.0 k.0 own asked number l.1)

  right_here : IsRightAt b zs' source place
  right_here = λ q y canon there.
      let w = led_from q canon in
      let x = fate b.journal (own_at b source) in
      let from = done.remotes source is_remote w.0 w.1 w.2 w.4 in
      let made = w.5.right x (b.rows w.0.source) from in
      let P : ℕ → Type 0 = λ n. IsOutcome None x (answer q (b.rows n)) z in
      let Q : ZoneResult → Type 0 = λ v. IsOutcome None x (answer q (b.rows q.source)) v in
      subst Q (sym (here b zs zs' place slot_is z set at_slot y there)) (subst P (source_same w.0 q w.3) made)

  led_here : (q : Query) → slice_get (canons_of b.schemas b.zones) place ≡ Some q → IsLedAt b zs' source place
  led_here q canon = λ y there.
      let w = led_from q canon in
      let P : Option ZoneResult → Type 0 = λ o. IsLed o z in
      let Q : ZoneResult → Type 0 = λ v. IsLed (outcome_at b zs' source) v in
      let leader = elsewhere b zs zs' place slot_is z set at_slot source not_here ∙ w.4 in
      subst Q (sym (here b zs zs' place slot_is z set at_slot y there)) (subst P (sym leader) w.5.led)

  query_here : (q : Query) × (slice_get (canons_of b.schemas b.zones) place ≡ Some q)
  query_here =
      let below = within_got (valid_places b.schemas 0 b.zones) place slot_is (place_of (valid_places b.schemas 0 b.zones) place slot_is (sym (ap (λ ns. slice_get ns place) is.zones) ∙ at)) in
      let many = length_places b.schemas 0 b.zones in
      got_within (canons_of b.schemas b.zones) place (omega (arith, below, many))

  abbrev Done : ℕ → ℕ → Type 0
  Done k s = IsRightAt b zs' s k × IsLedAt b zs' s k

  rolled_by : (k s : ℕ) → k < place + 1 → slice_get (roles_of b) k ≡ Some (Local s) → ((eqb k place ≡ true) × (k ≡ place)) ⊎ ((eqb k place ≡ false) × (k ≢ place)) → Done k s
  rolled_by k s lt r (inl (told, same)) =
      let q = query_here in
      let from : s ≡ source = same_source (roles_of b) k place s source same r local in
      let own : Done place source = (right_here, led_here q.0 q.1) in
      let P : ℕ → Type 0 = λ n. Done n s in
      let Q : ℕ → Type 0 = λ n. Done place n in
      subst P (sym same) (subst Q (sym from) own)
  rolled_by k s lt r (inr (told, ne)) =
      let before : k < place = omega (arith, lt, ne) in
      let old = done.locals k s before r in
      let remote = (sources_right (canons_of b.schemas b.zones) k (Local s) r).0 in
      let far : s ≢ place = apart (roles_of b) s place source remote local in
      (stays_right b zs zs' place slot_is z set at_slot s k ne old.0, stays_led b zs zs' place slot_is z set at_slot s k far ne old.1)

  pub rolled_more : AreRolled b (place + 1) zs'
  rolled_more = record {
    told = let P : List ZoneResult → Type 0 = λ ys. AreTold b.schemas b.zones ys in subst P (sym set) (at_slot.told z);
    remotes = λ k r. stays_right b zs zs' place slot_is z set at_slot k k (apart (roles_of b) k place source r local) (done.remotes k r);
    locals = λ k s lt r. rolled_by k s lt r (eqb_tells k place);
  }

-- a place that isn't looked at

pub fetched_past : (b : BatchOf) (place source : ℕ) (zs : List ZoneResult) → slice_get (roles_of b) place ≡ Some (Local source) → AreFetched b place zs → AreFetched b (place + 1) zs
fetched_past b place source zs l done = record {
  told = done.told;
  remotes = λ k lt r.
      let ne = apart (roles_of b) k place source r l in
      let before : k < place = omega (arith, lt, ne) in done.remotes k before r;
}

pub rolled_past : (b : BatchOf) (place : ℕ) (zs : List ZoneResult) → slice_get (roles_of b) place ≡ Some Remote → AreRolled b place zs → AreRolled b (place + 1) zs
rolled_past b place zs r done = record {
  told = done.told;
  remotes = done.remotes;
  locals = λ k s lt l.
      let ne = apart (roles_of b) place k s r l in
      let before : k < place = omega (arith, lt, ne) in done.locals k s before l;
}

-- the remote ones are done
pub rolled_first : (b : BatchOf) (zs : List ZoneResult) → AreFetched b (length (roles_of b)) zs → AreRolled b 0 zs
rolled_first b zs done = record {
  told = done.told;
  remotes = λ k r. done.remotes k (within_got (roles_of b) k Remote r) r;
  locals = λ k s lt l. absurd (omega (arith, lt));
}

-- the end of a walk

pub fetched_end : (b : BatchOf) (n m : ℕ) (zs : List ZoneResult) → n ≤ m → AreFetched b m zs → AreFetched b n zs
fetched_end b n m zs le done = record { told = done.told; remotes = λ k lt r. done.remotes k (omega (arith, lt, le)) r }

pub rolled_end : (b : BatchOf) (n m : ℕ) (zs : List ZoneResult) → n ≤ m → AreRolled b m zs → AreRolled b n zs
rolled_end b n m zs le done = record { told = done.told; remotes = done.remotes; locals = λ k s lt r. done.locals k s (omega (arith, lt, le)) r }
