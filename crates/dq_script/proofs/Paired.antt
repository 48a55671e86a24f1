-- The pairs of zones stand beside the steps that have them.
use Rattle.std.proofs.Common.{◌≡◌, ℕ, suc, ◌+◌, ◌<◌, ◌≤◌, List, [], ◌∷◌, ◌++◌, Bool, true, false, length, Option, Some, None, refl, ap, sym, ◌∙◌, subst, arith, length-append, append_assoc}
use Rattle.std.specs.Prelude.{◌&&◌, nat_le, nat_lt, nat_eq, not, Ok, codes, if◌then◌else◌}
use Rattle.std.specs.List.{list_all}
use Rattle.std.proofs.lemmas.Bool.{le-leb, leb-true}
use Rattle.serde_json.specs.Data.{Data}
use Rattle.dq_base.specs.Blends.{links_fit}
use Rattle.dq_base.specs.Numbered.{numbered}
use Rattle.dq_base.specs.Scripts.{zones_of}
use Rattle.dq_base.specs.declared.query.Query.{Query}
use Rattle.dq_base.specs.declared.script.How.{How}
use Rattle.dq_base.specs.declared.script.Step.{Step}
use Rattle.dq_base.specs.declared.script.Step.TheVariants.{Publish, Batch}
use Rattle.dq_script.proofs.Chains.{first_holds, second_holds, and_then_ok, mapped_ok, within_ok, provided_ok, array-made, object-made, wanted-made}
use Rattle.dq_script.proofs.Linked.{IsLinked, blend-linked}
use Rattle.dq_script.proofs.Numbers.{both_hold, all-with, all-weaker, numbered-more, numbered-behind}
use Rattle.dq_script.specs.Batches.{no_zones, with_zone, with_pair, blend_of, is_blend, next_zone_if, next_zone, batch_of}
use Rattle.dq_script.specs.Objects.{has, wanted}
use Rattle.dq_script.specs.Parts.{string_of}
use Rattle.dq_script.specs.Readings.{Reading, given, provided, mapped, both}
use Rattle.dq_script.specs.Zones.{source_in, zone_of}
use Rattle.dq_script.specs.Steps.{how_of, publish_with, publish_of, batch_with, batch_in, has_publish, step_of, with_step, next_step, no_steps, lane_of, with_lane, next_lane, no_lanes, lanes_of}
use Rattle.dq_script.specs.declared.batch.Batch.{Batch as BatchOf}
use Rattle.dq_script.specs.declared.batch.Pair.{Pair}
use Rattle.dq_script.specs.declared.extracts.Extracts.{Extracts}
use Rattle.dq_script.specs.declared.form.Form.{Form}
use Rattle.dq_script.specs.declared.step.Taken.{Taken}
use Rattle.dq_script.specs.declared.step.Lane.{Lane}
use Rattle.dq_script.specs.declared.step.Lanes.{Lanes}
use Rattle.dq_script.specs.declared.zone.Zone.{Zone}

-- a pair of two of these zones
abbrev pub is_pair : List Query → Pair → Bool
is_pair zones p = links_fit p.links (numbered zones p.zone) (numbered zones (p.zone + 1))

abbrev pub ends_within : ℕ → Pair → Bool
ends_within count p = nat_le (p.zone + 1) count

abbrev pub next_apart : Pair → List Pair → Bool
next_apart p [] = true
next_apart p (q ∷ ps) = nat_le (p.zone + 2) q.zone

-- pairs in order, of which no two share a zone
abbrev pub pairs_apart : List Pair → Bool
pairs_apart [] = true
pairs_apart (p ∷ ps) = next_apart p ps && pairs_apart ps

pub record ArePairs (zones : List Query) (pairs : List Pair) : Type 0 where
  pub fit : list_all (is_pair zones) pairs ≡ true
  pub within : list_all (ends_within (length zones)) pairs ≡ true
  pub apart : pairs_apart pairs ≡ true

fit-more : (links : List ℕ) (o p q r : Option Query) → ((x : Query) → o ≡ Some x → q ≡ Some x) → ((x : Query) → p ≡ Some x → r ≡ Some x) → links_fit links o p ≡ true → links_fit links q r ≡ true
fit-more links None p q r first second e = absurd (cc e)
fit-more links (Some x) None q r first second e = absurd (cc e)
fit-more links (Some x) (Some y) q r first second e = rw (first x refl, second y refl) e

pair-more : (zones more : List Query) (p : Pair) → is_pair zones p ≡ true → is_pair (zones ++ more) p ≡ true
pair-more zones more p e = fit-more p.links (numbered zones p.zone) (numbered zones (p.zone + 1)) (numbered (zones ++ more) p.zone) (numbered (zones ++ more) (p.zone + 1))
    (λ x f. numbered-more zones more p.zone x f) (λ x f. numbered-more zones more (p.zone + 1) x f) e

within-more : (n m : ℕ) (p : Pair) → n ≤ m → ends_within n p ≡ true → ends_within m p ≡ true
within-more n m p more e = let a : p.zone + 1 ≤ n = leb-true (p.zone + 1) n e in le-leb (p.zone + 1) m (omega arith)

pairs-more : (zones more : List Query) (pairs : List Pair) → ArePairs zones pairs → ArePairs (zones ++ more) pairs
pairs-more zones more pairs are =
    let longer : length (zones ++ more) ≡ length zones + length more = length-append zones more in
    let grown : length zones ≤ length (zones ++ more) = omega arith in
    record {
      fit = all-weaker (is_pair zones) (is_pair (zones ++ more)) (pair-more zones more) pairs are.fit;
      within = all-weaker (ends_within (length zones)) (ends_within (length (zones ++ more))) (λ p e. within-more (length zones) (length (zones ++ more)) p grown e) pairs are.within;
      apart = are.apart;
    }

apart-next : (p q : Pair) (ps : List Pair) → next_apart p ps ≡ true → nat_le (p.zone + 2) q.zone ≡ true → next_apart p (ps ++ q ∷ []) ≡ true
apart-next p q [] e f = f
apart-next p q (r ∷ ps) e f = e

apart-with : (count : ℕ) (q : Pair) (ps : List Pair) → count + 1 ≤ q.zone → list_all (ends_within count) ps ≡ true → pairs_apart ps ≡ true → pairs_apart (ps ++ q ∷ []) ≡ true
apart-with count q [] behind within e = refl
apart-with count q (p ∷ ps) behind within e =
    let here : p.zone + 1 ≤ count = leb-true (p.zone + 1) count (first_holds (ends_within count p) (list_all (ends_within count) ps) within) in
    both_hold (next_apart p (ps ++ q ∷ [])) (pairs_apart (ps ++ q ∷ []))
    (apart-next p q ps (first_holds (next_apart p ps) (pairs_apart ps) e) (le-leb (p.zone + 2) q.zone (omega arith)))
    (apart-with count q ps behind (second_holds (ends_within count p) (list_all (ends_within count) ps) within) (second_holds (next_apart p ps) (pairs_apart ps) e))

pair-with : (b : BatchOf) (p : (Zone × Zone) × List ℕ) → IsLinked p → ArePairs b.zones b.pairs → ArePairs (with_pair b p).zones (with_pair b p).pairs
pair-with b p linked are =
    let zones : List Query = b.zones ++ p.0.0.query ∷ p.0.1.query ∷ [] in
    let grown : ArePairs zones b.pairs = pairs-more b.zones (p.0.0.query ∷ p.0.1.query ∷ []) b.pairs are in
    let longer : length zones ≡ length b.zones + 2 = length-append b.zones (p.0.0.query ∷ p.0.1.query ∷ []) in
    let first : numbered zones (length b.zones + 1) ≡ Some p.0.0.query = numbered-behind b.zones (p.0.0.query ∷ p.0.1.query ∷ []) 0 (length b.zones + 1) (omega arith) in
    let second : numbered zones (length b.zones + 1 + 1) ≡ Some p.0.1.query = numbered-behind b.zones (p.0.0.query ∷ p.0.1.query ∷ []) 1 (length b.zones + 1 + 1) (omega arith) in
    let q : Pair = record { zone = length b.zones + 1; links = p.1 } in
    record {
      fit = all-with (is_pair zones) b.pairs q grown.fit (rw (first, second) linked.fit);
      within = all-with (ends_within (length zones)) b.pairs q grown.within (le-leb (length b.zones + 1 + 1) (length zones) (omega arith));
      apart = apart-with (length b.zones) q b.pairs (omega arith) are.within are.apart;
    }

-- the pairs of a batch are pairs of its zones
pub record IsBatch (b : BatchOf) : Type 0 where
  pub pairs : ArePairs b.zones b.pairs

zone-if : (blend : Bool) (es : Extracts) (b t : BatchOf) (d : Data) → next_zone_if blend es b d ≡ Ok t → IsBatch b → IsBatch t
zone-if false es b t d e is = mapped_ok (with_zone b) (zone_of es d) t e (λ z found made. subst IsBatch made record { pairs = pairs-more b.zones (z.query ∷ []) b.pairs is.pairs })
zone-if true es b t d e is = mapped_ok (with_pair b) (blend_of es d) t e (λ p found made. subst IsBatch made record { pairs = pair-with b p (blend-linked es d p found) is.pairs })

next-paired : (f : Form) (es : Extracts) (s t : BatchOf) (d : Data) → next_zone f es s d ≡ Ok t → IsBatch s → IsBatch t
next-paired f es s t d e is = zone-if (is_blend f d) es s t d e is

batch-paired : (f : Form) (es : Extracts) (d : Data) (b : BatchOf) → batch_of f es d ≡ Ok b → IsBatch b
batch-paired f es d b e = array-made IsBatch (next_zone f es) (next-paired f es) no_zones b d e record { pairs = record { fit = refl; within = refl; apart = refl } }

-- the pairs of a step are pairs of its zones
abbrev pub step_has : Step → List Pair → Bool
step_has s ps = list_all (is_pair (zones_of (Some s))) ps && (list_all (ends_within (length (zones_of (Some s)))) ps && pairs_apart ps)

pub record IsTaken (t : Taken) : Type 0 where
  pub has : step_has t.step t.pairs ≡ true

batch-taken : (b : BatchOf) → IsBatch b → IsTaken (batch_with b)
batch-taken b is = record { has = both_hold _ _ is.pairs.fit (both_hold _ _ is.pairs.within is.pairs.apart) }

batch-read : (f : Form) (es : Extracts) (d : Data) (t : Taken) → batch_in f es d ≡ Ok t → IsTaken t
batch-read f es d t e = object-made IsTaken (codes "batch" ∷ []) (mapped batch_with (wanted (codes "batch") (batch_of f es) d)) d t e (λ y read.
    mapped_ok batch_with (wanted (codes "batch") (batch_of f es) d) y read (λ b found made.
    subst IsTaken made (batch-taken b (wanted-made IsBatch (codes "batch") (batch_of f es) d b found (λ x is. batch-paired f es x b is)))))

abbrev publish_parts : Extracts → Data → Reading (ℕ × (How × List ℕ))
publish_parts es d = both (wanted (codes "publish") (source_in es) d) (both (wanted (codes "how") (λ h. given (how_of h)) d) (wanted (codes "file") (λ f. given (string_of f)) d))

publish-read : (es : Extracts) (d : Data) (t : Taken) → publish_of es d ≡ Ok t → IsTaken t
publish-read es d t e = object-made IsTaken (codes "publish" ∷ codes "how" ∷ codes "file" ∷ []) (mapped publish_with (publish_parts es d)) d t e (λ y read.
    mapped_ok publish_with (publish_parts es d) y read (λ p found made. subst IsTaken made record { has = refl }))

step-if : (batch publish : Bool) (f : Form) (es : Extracts) (d : Data) (t : Taken)
    → (if batch then provided (not publish) (batch_in f es d) else provided (has (codes "publish") d) (publish_of es d)) ≡ Ok t → IsTaken t
step-if true publish f es d t e = batch-read f es d t (provided_ok (not publish) (batch_in f es d) t e)
step-if false publish f es d t e = publish-read es d t (provided_ok (has (codes "publish") d) (publish_of es d) t e)

-- the pairs of steps stand beside them
abbrev pub steps_have : List Step → List (List Pair) → Bool
steps_have [] [] = true
steps_have [] (ps ∷ pss) = false
steps_have (s ∷ ss) [] = false
steps_have (s ∷ ss) (ps ∷ pss) = step_has s ps && steps_have ss pss

abbrev pub lanes_have : List (List Step) → List (List (List Pair)) → Bool
lanes_have [] [] = true
lanes_have [] (pss ∷ psss) = false
lanes_have (ss ∷ sss) [] = false
lanes_have (ss ∷ sss) (pss ∷ psss) = steps_have ss pss && lanes_have sss psss

steps-with : (ss : List Step) (pss : List (List Pair)) (s : Step) (ps : List Pair) → steps_have ss pss ≡ true → step_has s ps ≡ true → steps_have (ss ++ s ∷ []) (pss ++ ps ∷ []) ≡ true
steps-with [] [] s ps e f = both_hold (step_has s ps) true f refl
steps-with [] (qs ∷ pss) s ps e f = absurd (cc e)
steps-with (r ∷ ss) [] s ps e f = absurd (cc e)
steps-with (r ∷ ss) (qs ∷ pss) s ps e f = both_hold (step_has r qs) (steps_have (ss ++ s ∷ []) (pss ++ ps ∷ []))
    (first_holds (step_has r qs) (steps_have ss pss) e) (steps-with ss pss s ps (second_holds (step_has r qs) (steps_have ss pss) e) f)

lanes-with : (sss : List (List Step)) (psss : List (List (List Pair))) (ss : List Step) (pss : List (List Pair))
    → lanes_have sss psss ≡ true → steps_have ss pss ≡ true → lanes_have (sss ++ ss ∷ []) (psss ++ pss ∷ []) ≡ true
lanes-with [] [] ss pss e f = both_hold (steps_have ss pss) true f refl
lanes-with [] (qs ∷ psss) ss pss e f = absurd (cc e)
lanes-with (r ∷ sss) [] ss pss e f = absurd (cc e)
lanes-with (r ∷ sss) (qs ∷ psss) ss pss e f = both_hold (steps_have r qs) (lanes_have (sss ++ ss ∷ []) (psss ++ pss ∷ []))
    (first_holds (steps_have r qs) (lanes_have sss psss) e) (lanes-with sss psss ss pss (second_holds (steps_have r qs) (lanes_have sss psss) e) f)

pub record IsLane (l : Lane) : Type 0 where
  pub have : steps_have l.steps l.pairs ≡ true

pub record AreLanes (ls : Lanes) : Type 0 where
  pub have : lanes_have ls.lanes ls.pairs ≡ true

next-lane-step : (f : Form) (es : Extracts) (l t : Lane) (d : Data) → next_step f es l d ≡ Ok t → IsLane l → IsLane t
next-lane-step f es l t d e is = mapped_ok (with_step l) (step_of f es d) t e (λ x found made.
    let taken : IsTaken x = step-if (has (codes "batch") d) (has_publish d) f es d x found in
    subst IsLane made record { have = steps-with l.steps l.pairs x.step x.pairs is.have taken.has })

lane-paired : (f : Form) (es : Extracts) (d : Data) (l : Lane) → lane_of f es d ≡ Ok l → IsLane l
lane-paired f es d l e = array-made IsLane (next_step f es) (next-lane-step f es) no_steps l d e record { have = refl }

next-lanes : (f : Form) (es : Extracts) (ls t : Lanes) (d : Data) → next_lane f es ls d ≡ Ok t → AreLanes ls → AreLanes t
next-lanes f es ls t d e are = mapped_ok (with_lane ls) (lane_of f es d) t e (λ l found made.
    let lane : IsLane l = lane-paired f es d l found in
    subst AreLanes made record { have = lanes-with ls.lanes ls.pairs l.steps l.pairs are.have lane.have })

-- the pairs of lanes that were read stand beside their steps
pub lanes-paired : (f : Form) (es : Extracts) (d : Data) (ls : Lanes) → lanes_of f es d ≡ Ok ls → AreLanes ls
lanes-paired f es d ls e = array-made AreLanes (next_lane f es) (next-lanes f es) no_lanes ls d e record { have = refl }
