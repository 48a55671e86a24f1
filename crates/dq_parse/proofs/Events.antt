-- Readings of entries behind their words.
use Rattle.std.proofs.Common.{◌≡◌, ℕ, Bool, true, false, List, ◌++◌, flat_map, decimal, codes, Option, Some, None, Result, refl, sym, ap, subst, ◌∙◌, append_assoc, arith, eqb-true}
use Rattle.std.specs.List.{AllByRecursion}
use Rattle.dq_base.specs.Rests.{first, Anything, Stops}
use Rattle.dq_base.specs.Spelling.{Bytes}
use Rattle.dq_base.specs.declared.kept.Kept.{Kept}
use Rattle.dq_base.proofs.Told.{third}
use Rattle.dq_journal.specs.declared.entry.Met.{Met}
use Rattle.dq_journal.specs.declared.entry.Cause.{Cause}
use Rattle.dq_journal.specs.declared.entry.Cause.TheVariants as cause
use Rattle.dq_journal.specs.declared.entry.Entry.{Entry}
use Rattle.dq_journal.specs.declared.entry.Entry.TheVariants.{Publish, Admit, Lease, Give, Lose, Land, Fall, Take, End}
use Rattle.dq_reading.specs.Reading.{IsRead, IsNone, Reads}
use Rattle.dq_reading.specs.declared.fault.TextFault.{TextFault}
use Rattle.dq_reading.proofs.Readings.{pair_read, first_none, second_none, as_read, as_none, lead_read, lead_none, fewer_read, fewer_none}
use Rattle.dq_report.specs.Report.{cause_text, entry_text, flight_of_lane, fresh_word, kept_word, met_text, step_of_lane, taken_text}
use Rattle.dq_report.specs.Told.{FitsMet, FitsNext}
use Rattle.dq_parse.specs.Reading.{Any, AreCounts, AreLaneFlight, AreLaneStep, AreLost, AreOfFlight, EndsLine, IsShown, caches_text, counts_of_text, lane_flight_text, lane_step_text, link_text, lost_of_text, met_list, size_text}

-- A kind of entry: its word, and what stands behind it. All that can stand behind the word is of this kind.
pub record Kind {Z : Type 0} (P : Z → Type 0) (E : Bytes → Type 0) (F : Z → Bytes) (word : Bytes) (K : Z → Entry) : Type 0 where
  pub same : (z : Z) → P z → entry_text (K z) ≡ word ++ F z
  pub sized : (z : Z) → P z → IsShown (K z)
  pub only : (y : Entry) (r mid : Bytes) → IsShown y → word ++ mid ≡ entry_text y ++ r → (z : Z) × (y ≡ K z) × P z
  pub closes : (r : Bytes) → EndsLine r → E r

kind_read : {Z : Type 0} {P : Z → Type 0} {E : Bytes → Type 0} {F : Z → Bytes} {word : Bytes} {K : Z → Entry} {mid after : Bytes} {z : Z} → Kind P E F word K → IsRead P E F mid after z
    → IsRead IsShown EndsLine entry_text (word ++ mid) after (K z)
kind_read {word = word} {K = K} {mid = mid} k t = as_read K k.same k.sized (λ y r p q h. k.only y r mid p h) (fewer_read k.closes (lead_read word refl t))

kind_none : {Z : Type 0} {P : Z → Type 0} {E : Bytes → Type 0} {F : Z → Bytes} {word : Bytes} {K : Z → Entry} {mid : Bytes} → Kind P E F word K → IsNone P E F mid
    → IsNone IsShown EndsLine entry_text (word ++ mid)
kind_none {word = word} {K = K} {mid = mid} k t = as_none K k.same (λ y r p q h. k.only y r mid p h) (fewer_none k.closes (lead_none word refl t))

-- what may stand behind an entry

any_at_line : (r : Bytes) → EndsLine r → Anything r
any_at_line r e = tt

same_at_line : (r : Bytes) → EndsLine r → EndsLine r
same_at_line r e = e

pub stops_at_line : (r : Bytes) → EndsLine r → Stops r
stops_at_line r e = let n : first r ≡ 10 = eqb-true (first r) 10 e in rw n refl

-- the sizes and texts of what stands behind each word

abbrev AreAdmitted : (ℕ × ℕ) × List Met → Type 0
AreAdmitted z = AreLaneStep z.0 × AllByRecursion FitsMet z.1

abbrev admitted_text : (ℕ × ℕ) × List Met → Bytes
admitted_text z = lane_step_text z.0 ++ met_list z.1

abbrev AreLeased : (ℕ × ℕ × ℕ) × Bool → Type 0
AreLeased z = AreOfFlight z.0 × Any z.1

abbrev leased_text : (ℕ × ℕ × ℕ) × Bool → Bytes
leased_text z = link_text z.0 ++ fresh_word z.1

abbrev AreGiven : (ℕ × ℕ × ℕ) × (Bool × ℕ × ℕ) → Type 0
AreGiven z = AreOfFlight z.0 × AreCounts z.1

abbrev given_text : (ℕ × ℕ × ℕ) × (Bool × ℕ × ℕ) → Bytes
given_text z = link_text z.0 ++ counts_of_text z.1

abbrev AreLostLinks : (ℕ × ℕ × ℕ) × (Bool × Bool × ℕ × ℕ) → Type 0
AreLostLinks z = AreOfFlight z.0 × AreLost z.1

abbrev lost_link_text : (ℕ × ℕ × ℕ) × (Bool × Bool × ℕ × ℕ) → Bytes
lost_link_text z = link_text z.0 ++ lost_of_text z.1

abbrev AreLanded : (ℕ × ℕ × ℕ) × (Kept × Kept) → Type 0
AreLanded z = AreOfFlight z.0 × Any z.1

abbrev landed_text : (ℕ × ℕ × ℕ) × (Kept × Kept) → Bytes
landed_text z = size_text z.0 ++ caches_text z.1

abbrev AreFallen : (ℕ × ℕ) × Cause → Type 0
AreFallen z = AreLaneFlight z.0 × Any z.1

abbrev fallen_text : (ℕ × ℕ) × Cause → Bytes
fallen_text z = lane_flight_text z.0 ++ cause_text z.1

abbrev AreTaken : (ℕ × ℕ) × Option ℕ → Type 0
AreTaken z = AreLaneFlight z.0 × FitsNext z.1

abbrev took_text : (ℕ × ℕ) × Option ℕ → Bytes
took_text z = lane_flight_text z.0 ++ taken_text z.1

-- the kinds

publish_only : (y : Entry) (r mid : Bytes) → IsShown y → codes "publish" ++ mid ≡ entry_text y ++ r → (z : ℕ × ℕ) × (y ≡ Publish z.0 z.1) × AreLaneStep z
publish_only (Publish m t) r mid p e = ((m, t), refl, (p.0.0, p.0.1))
publish_only (Admit m t w) r mid p e = absurd (omega (arith, ap third e))
publish_only (Lease m f k g) r mid p e = absurd (omega (arith, ap third e))
publish_only (Give m f k o u c) r mid p e = absurd (omega (arith, ap third e))
publish_only (Lose m f k d o u c) r mid p e = absurd (omega (arith, ap third e))
publish_only (Land m f n h l) r mid p e = absurd (omega (arith, ap third e))
publish_only (Fall m f v) r mid p e = absurd (omega (arith, ap third e))
publish_only (Take m f x) r mid p e = absurd (omega (arith, ap third e))
publish_only (End m) r mid p e = absurd (omega (arith, ap third e))

publish_kind : Kind AreLaneStep Stops lane_step_text (codes "publish") (λ z. Publish z.0 z.1)
publish_kind = record { same = λ z p. refl; sized = λ z p. ((p.0, p.1), tt); only = publish_only; closes = stops_at_line }

admit_only : (y : Entry) (r mid : Bytes) → IsShown y → codes "admit" ++ mid ≡ entry_text y ++ r → (z : (ℕ × ℕ) × List Met) × (y ≡ Admit z.0.0 z.0.1 z.1) × AreAdmitted z
admit_only (Publish m t) r mid p e = absurd (omega (arith, ap third e))
admit_only (Admit m t w) r mid p e = (((m, t), w), refl, ((p.0.0, p.0.1), p.0.2))
admit_only (Lease m f k g) r mid p e = absurd (omega (arith, ap third e))
admit_only (Give m f k o u c) r mid p e = absurd (omega (arith, ap third e))
admit_only (Lose m f k d o u c) r mid p e = absurd (omega (arith, ap third e))
admit_only (Land m f n h l) r mid p e = absurd (omega (arith, ap third e))
admit_only (Fall m f v) r mid p e = absurd (omega (arith, ap third e))
admit_only (Take m f x) r mid p e = absurd (omega (arith, ap third e))
admit_only (End m) r mid p e = absurd (omega (arith, ap third e))

admit_kind : Kind AreAdmitted EndsLine admitted_text (codes "admit") (λ z. Admit z.0.0 z.0.1 z.1)
admit_kind = record { same = λ z p. ap (λ t. codes "admit" ++ t) (append_assoc (lane_step_text z.0) (codes " met") (flat_map met_text z.1)); sized = λ z p. ((p.0.0, p.0.1, p.1), tt); only = admit_only; closes = same_at_line }

lease_only : (y : Entry) (r mid : Bytes) → IsShown y → codes "lease" ++ mid ≡ entry_text y ++ r → (z : (ℕ × ℕ × ℕ) × Bool) × (y ≡ Lease z.0.0 z.0.1 z.0.2 z.1) × AreLeased z
lease_only (Publish m t) r mid p e = absurd (omega (arith, ap third e))
lease_only (Admit m t w) r mid p e = absurd (omega (arith, ap third e))
lease_only (Lease m f k g) r mid p e = (((m, f, k), g), refl, ((p.0.0, p.0.1, p.0.2), tt))
lease_only (Give m f k o u c) r mid p e = absurd (omega (arith, ap third e))
lease_only (Lose m f k d o u c) r mid p e = absurd (omega (arith, ap third e))
lease_only (Land m f n h l) r mid p e = absurd (omega (arith, ap third e))
lease_only (Fall m f v) r mid p e = absurd (omega (arith, ap third e))
lease_only (Take m f x) r mid p e = absurd (omega (arith, ap third e))
lease_only (End m) r mid p e = absurd (omega (arith, ap third e))

lease_kind : Kind AreLeased Anything leased_text (codes "lease") (λ z. Lease z.0.0 z.0.1 z.0.2 z.1)
lease_kind = record { same = λ z p. refl; sized = λ z p. ((p.0.0, p.0.1, p.0.2), tt); only = lease_only; closes = any_at_line }

give_only : (y : Entry) (r mid : Bytes) → IsShown y → codes "give" ++ mid ≡ entry_text y ++ r → (z : (ℕ × ℕ × ℕ) × (Bool × ℕ × ℕ)) × (y ≡ Give z.0.0 z.0.1 z.0.2 z.1.0 z.1.1 z.1.2) × AreGiven z
give_only (Publish m t) r mid p e = absurd (omega (arith, ap third e))
give_only (Admit m t w) r mid p e = absurd (omega (arith, ap third e))
give_only (Lease m f k g) r mid p e = absurd (omega (arith, ap third e))
give_only (Give m f k o u c) r mid p e = (((m, f, k), (o, u, c)), refl, ((p.0.0, p.0.1, p.0.2), (p.0.3, p.0.4)))
give_only (Lose m f k d o u c) r mid p e = absurd (omega (arith, ap third e))
give_only (Land m f n h l) r mid p e = absurd (omega (arith, ap third e))
give_only (Fall m f v) r mid p e = absurd (omega (arith, ap third e))
give_only (Take m f x) r mid p e = absurd (omega (arith, ap third e))
give_only (End m) r mid p e = absurd (omega (arith, ap third e))

give_kind : Kind AreGiven Stops given_text (codes "give") (λ z. Give z.0.0 z.0.1 z.0.2 z.1.0 z.1.1 z.1.2)
give_kind = record { same = λ z p. refl; sized = λ z p. ((p.0.0, p.0.1, p.0.2, p.1.0, p.1.1), tt); only = give_only; closes = stops_at_line }

lose_only : (y : Entry) (r mid : Bytes) → IsShown y → codes "lose" ++ mid ≡ entry_text y ++ r → (z : (ℕ × ℕ × ℕ) × (Bool × Bool × ℕ × ℕ)) × (y ≡ Lose z.0.0 z.0.1 z.0.2 z.1.0 z.1.1 z.1.2 z.1.3) × AreLostLinks z
lose_only (Publish m t) r mid p e = absurd (omega (arith, ap third e))
lose_only (Admit m t w) r mid p e = absurd (omega (arith, ap third e))
lose_only (Lease m f k g) r mid p e = absurd (omega (arith, ap third e))
lose_only (Give m f k o u c) r mid p e = absurd (omega (arith, ap third e))
lose_only (Lose m f k d o u c) r mid p e = (((m, f, k), (d, o, u, c)), refl, ((p.0.0, p.0.1, p.0.2), (p.1, p.0.3, p.0.4)))
lose_only (Land m f n h l) r mid p e = absurd (omega (arith, ap third e))
lose_only (Fall m f v) r mid p e = absurd (omega (arith, ap third e))
lose_only (Take m f x) r mid p e = absurd (omega (arith, ap third e))
lose_only (End m) r mid p e = absurd (omega (arith, ap third e))

lose_kind : Kind AreLostLinks Stops lost_link_text (codes "lose") (λ z. Lose z.0.0 z.0.1 z.0.2 z.1.0 z.1.1 z.1.2 z.1.3)
lose_kind = record { same = λ z p. refl; sized = λ z p. ((p.0.0, p.0.1, p.0.2, p.1.1, p.1.2), p.1.0); only = lose_only; closes = stops_at_line }

land_only : (y : Entry) (r mid : Bytes) → IsShown y → codes "land" ++ mid ≡ entry_text y ++ r → (z : (ℕ × ℕ × ℕ) × (Kept × Kept)) × (y ≡ Land z.0.0 z.0.1 z.0.2 z.1.0 z.1.1) × AreLanded z
land_only (Publish m t) r mid p e = absurd (omega (arith, ap third e))
land_only (Admit m t w) r mid p e = absurd (omega (arith, ap third e))
land_only (Lease m f k g) r mid p e = absurd (omega (arith, ap third e))
land_only (Give m f k o u c) r mid p e = absurd (omega (arith, ap third e))
land_only (Lose m f k d o u c) r mid p e = absurd (omega (arith, ap third e))
land_only (Land m f n h l) r mid p e = (((m, f, n), (h, l)), refl, ((p.0.0, p.0.1, p.0.2), tt))
land_only (Fall m f v) r mid p e = absurd (omega (arith, ap third e))
land_only (Take m f x) r mid p e = absurd (omega (arith, ap third e))
land_only (End m) r mid p e = absurd (omega (arith, ap third e))

land_same : (size clever literal : Bytes) → codes "land" ++ (size ++ codes " clever " ++ clever ++ codes " literal " ++ literal) ≡ codes "land" ++ (size ++ (codes " clever " ++ clever ++ codes " literal " ++ literal))
land_same size clever literal =
    ap (λ t. codes "land" ++ t)
    (ap (λ t. t ++ codes " literal " ++ literal) (append_assoc size (codes " clever ") clever) ∙ ap (λ t. t ++ literal) (append_assoc size (codes " clever " ++ clever) (codes " literal "))
    ∙ append_assoc size (codes " clever " ++ clever ++ codes " literal ") literal)

land_kind : Kind AreLanded Anything landed_text (codes "land") (λ z. Land z.0.0 z.0.1 z.0.2 z.1.0 z.1.1)
land_kind = record { same = λ z p. land_same (size_text z.0) (kept_word z.1.0) (kept_word z.1.1); sized = λ z p. ((p.0.0, p.0.1, p.0.2), tt); only = land_only; closes = any_at_line }

fall_only : (y : Entry) (r mid : Bytes) → IsShown y → codes "fall" ++ mid ≡ entry_text y ++ r → (z : (ℕ × ℕ) × Cause) × (y ≡ Fall z.0.0 z.0.1 z.1) × AreFallen z
fall_only (Publish m t) r mid p e = absurd (omega (arith, ap third e))
fall_only (Admit m t w) r mid p e = absurd (omega (arith, ap third e))
fall_only (Lease m f k g) r mid p e = absurd (omega (arith, ap third e))
fall_only (Give m f k o u c) r mid p e = absurd (omega (arith, ap third e))
fall_only (Lose m f k d o u c) r mid p e = absurd (omega (arith, ap third e))
fall_only (Land m f n h l) r mid p e = absurd (omega (arith, ap third e))
fall_only (Fall m f v) r mid p e = (((m, f), v), refl, ((p.0.0, p.0.1), tt))
fall_only (Take m f x) r mid p e = absurd (omega (arith, ap third e))
fall_only (End m) r mid p e = absurd (omega (arith, ap third e))

fall_kind : Kind AreFallen Anything fallen_text (codes "fall") (λ z. Fall z.0.0 z.0.1 z.1)
fall_kind = record { same = λ z p. refl; sized = λ z p. ((p.0.0, p.0.1), tt); only = fall_only; closes = any_at_line }

take_only : (y : Entry) (r mid : Bytes) → IsShown y → codes "take" ++ mid ≡ entry_text y ++ r → (z : (ℕ × ℕ) × Option ℕ) × (y ≡ Take z.0.0 z.0.1 z.1) × AreTaken z
take_only (Publish m t) r mid p e = absurd (omega (arith, ap third e))
take_only (Admit m t w) r mid p e = absurd (omega (arith, ap third e))
take_only (Lease m f k g) r mid p e = absurd (omega (arith, ap third e))
take_only (Give m f k o u c) r mid p e = absurd (omega (arith, ap third e))
take_only (Lose m f k d o u c) r mid p e = absurd (omega (arith, ap third e))
take_only (Land m f n h l) r mid p e = absurd (omega (arith, ap third e))
take_only (Fall m f v) r mid p e = absurd (omega (arith, ap third e))
take_only (Take m f x) r mid p e = (((m, f), x), refl, ((p.0.0, p.0.1), p.0.2))
take_only (End m) r mid p e = absurd (omega (arith, ap third e))

take_kind : Kind AreTaken Stops took_text (codes "take") (λ z. Take z.0.0 z.0.1 z.1)
take_kind = record { same = λ z p. refl; sized = λ z p. ((p.0.0, p.0.1, p.1), tt); only = take_only; closes = stops_at_line }

-- entries of one part

pub publish_read : {mid after : Bytes} {z : ℕ × ℕ} → IsRead AreLaneStep Stops lane_step_text mid after z → IsRead IsShown EndsLine entry_text (codes "publish" ++ mid) after (Publish z.0 z.1)
publish_read t = kind_read publish_kind t

pub publish_none : {mid : Bytes} → IsNone AreLaneStep Stops lane_step_text mid → IsNone IsShown EndsLine entry_text (codes "publish" ++ mid)
publish_none t = kind_none publish_kind t

-- entries of two parts

met_opens : (m : List Met) (r : Bytes) → AllByRecursion FitsMet m → EndsLine r → Stops (met_list m ++ r)
met_opens m r p q = refl

fresh_opens : (b : Bool) (r : Bytes) → Any b → Anything r → Stops (fresh_word b ++ r)
fresh_opens true r p q = refl
fresh_opens false r p q = refl

counts_open_by : (ran : Bool) (runs calls : ℕ) (r : Bytes) → Stops (counts_of_text (ran, runs, calls) ++ r)
counts_open_by true runs calls r = refl
counts_open_by false runs calls r = refl

counts_open : (z : Bool × ℕ × ℕ) (r : Bytes) → AreCounts z → Stops r → Stops (counts_of_text z ++ r)
counts_open z r p q = counts_open_by z.0 z.1 z.2 r

lost_opens_by : (d ran : Bool) (runs calls : ℕ) (r : Bytes) → Stops (lost_of_text (d, ran, runs, calls) ++ r)
lost_opens_by true ran runs calls r = refl
lost_opens_by false ran runs calls r = refl

lost_opens : (z : Bool × Bool × ℕ × ℕ) (r : Bytes) → AreLost z → Stops r → Stops (lost_of_text z ++ r)
lost_opens z r p q = lost_opens_by z.0 z.1 z.2 z.3 r

caches_open : (z : Kept × Kept) (r : Bytes) → Any z → Anything r → Stops (caches_text z ++ r)
caches_open z r p q = refl

cause_opens : (v : Cause) (r : Bytes) → Any v → Anything r → Stops (cause_text v ++ r)
cause_opens cause.BackEnd r p q = refl
cause_opens cause.Memory r p q = refl

taken_opens : (x : Option ℕ) (r : Bytes) → FitsNext x → Stops r → Stops (taken_text x ++ r)
taken_opens None r p q = refl
taken_opens (Some n) r p q = refl

pub admit_read : {mid on after : Bytes} {a : ℕ × ℕ} {b : List Met} → IsRead AreLaneStep Stops lane_step_text mid on a → IsRead (AllByRecursion FitsMet) EndsLine met_list on after b → IsRead IsShown EndsLine entry_text (codes "admit" ++ mid) after (Admit a.0 a.1 b)
admit_read t u = kind_read admit_kind (pair_read t u met_opens)

pub admit_first : {mid : Bytes} → IsNone AreLaneStep Stops lane_step_text mid → IsNone IsShown EndsLine entry_text (codes "admit" ++ mid)
admit_first t = kind_none admit_kind (first_none met_list t met_opens)

pub admit_second : {mid on : Bytes} {a : ℕ × ℕ} → IsRead AreLaneStep Stops lane_step_text mid on a → IsNone (AllByRecursion FitsMet) EndsLine met_list on → IsNone IsShown EndsLine entry_text (codes "admit" ++ mid)
admit_second t u = kind_none admit_kind (second_none t u met_opens)

pub lease_read : {mid on after : Bytes} {a : ℕ × ℕ × ℕ} {b : Bool} → IsRead AreOfFlight Stops link_text mid on a → IsRead Any Anything fresh_word on after b → IsRead IsShown EndsLine entry_text (codes "lease" ++ mid) after (Lease a.0 a.1 a.2 b)
lease_read t u = kind_read lease_kind (pair_read t u fresh_opens)

pub lease_first : {mid : Bytes} → IsNone AreOfFlight Stops link_text mid → IsNone IsShown EndsLine entry_text (codes "lease" ++ mid)
lease_first t = kind_none lease_kind (first_none fresh_word t fresh_opens)

pub lease_second : {mid on : Bytes} {a : ℕ × ℕ × ℕ} → IsRead AreOfFlight Stops link_text mid on a → IsNone Any Anything fresh_word on → IsNone IsShown EndsLine entry_text (codes "lease" ++ mid)
lease_second t u = kind_none lease_kind (second_none t u fresh_opens)

pub give_read : {mid on after : Bytes} {a : ℕ × ℕ × ℕ} {b : Bool × ℕ × ℕ} → IsRead AreOfFlight Stops link_text mid on a → IsRead AreCounts Stops counts_of_text on after b → IsRead IsShown EndsLine entry_text (codes "give" ++ mid) after (Give a.0 a.1 a.2 b.0 b.1 b.2)
give_read t u = kind_read give_kind (pair_read t u counts_open)

pub give_first : {mid : Bytes} → IsNone AreOfFlight Stops link_text mid → IsNone IsShown EndsLine entry_text (codes "give" ++ mid)
give_first t = kind_none give_kind (first_none counts_of_text t counts_open)

pub give_second : {mid on : Bytes} {a : ℕ × ℕ × ℕ} → IsRead AreOfFlight Stops link_text mid on a → IsNone AreCounts Stops counts_of_text on → IsNone IsShown EndsLine entry_text (codes "give" ++ mid)
give_second t u = kind_none give_kind (second_none t u counts_open)

pub lose_read : {mid on after : Bytes} {a : ℕ × ℕ × ℕ} {b : Bool × Bool × ℕ × ℕ} → IsRead AreOfFlight Stops link_text mid on a → IsRead AreLost Stops lost_of_text on after b → IsRead IsShown EndsLine entry_text (codes "lose" ++ mid) after (Lose a.0 a.1 a.2 b.0 b.1 b.2 b.3)
lose_read t u = kind_read lose_kind (pair_read t u lost_opens)

pub lose_first : {mid : Bytes} → IsNone AreOfFlight Stops link_text mid → IsNone IsShown EndsLine entry_text (codes "lose" ++ mid)
lose_first t = kind_none lose_kind (first_none lost_of_text t lost_opens)

pub lose_second : {mid on : Bytes} {a : ℕ × ℕ × ℕ} → IsRead AreOfFlight Stops link_text mid on a → IsNone AreLost Stops lost_of_text on → IsNone IsShown EndsLine entry_text (codes "lose" ++ mid)
lose_second t u = kind_none lose_kind (second_none t u lost_opens)

pub land_read : {mid on after : Bytes} {a : ℕ × ℕ × ℕ} {b : Kept × Kept} → IsRead AreOfFlight Stops size_text mid on a → IsRead Any Anything caches_text on after b → IsRead IsShown EndsLine entry_text (codes "land" ++ mid) after (Land a.0 a.1 a.2 b.0 b.1)
land_read t u = kind_read land_kind (pair_read t u caches_open)

pub land_first : {mid : Bytes} → IsNone AreOfFlight Stops size_text mid → IsNone IsShown EndsLine entry_text (codes "land" ++ mid)
land_first t = kind_none land_kind (first_none caches_text t caches_open)

pub land_second : {mid on : Bytes} {a : ℕ × ℕ × ℕ} → IsRead AreOfFlight Stops size_text mid on a → IsNone Any Anything caches_text on → IsNone IsShown EndsLine entry_text (codes "land" ++ mid)
land_second t u = kind_none land_kind (second_none t u caches_open)

pub fall_read : {mid on after : Bytes} {a : ℕ × ℕ} {b : Cause} → IsRead AreLaneFlight Stops lane_flight_text mid on a → IsRead Any Anything cause_text on after b → IsRead IsShown EndsLine entry_text (codes "fall" ++ mid) after (Fall a.0 a.1 b)
fall_read t u = kind_read fall_kind (pair_read t u cause_opens)

pub fall_first : {mid : Bytes} → IsNone AreLaneFlight Stops lane_flight_text mid → IsNone IsShown EndsLine entry_text (codes "fall" ++ mid)
fall_first t = kind_none fall_kind (first_none cause_text t cause_opens)

pub fall_second : {mid on : Bytes} {a : ℕ × ℕ} → IsRead AreLaneFlight Stops lane_flight_text mid on a → IsNone Any Anything cause_text on → IsNone IsShown EndsLine entry_text (codes "fall" ++ mid)
fall_second t u = kind_none fall_kind (second_none t u cause_opens)

pub take_read : {mid on after : Bytes} {a : ℕ × ℕ} {b : Option ℕ} → IsRead AreLaneFlight Stops lane_flight_text mid on a → IsRead FitsNext Stops taken_text on after b → IsRead IsShown EndsLine entry_text (codes "take" ++ mid) after (Take a.0 a.1 b)
take_read t u = kind_read take_kind (pair_read t u taken_opens)

pub take_first : {mid : Bytes} → IsNone AreLaneFlight Stops lane_flight_text mid → IsNone IsShown EndsLine entry_text (codes "take" ++ mid)
take_first t = kind_none take_kind (first_none taken_text t taken_opens)

pub take_second : {mid on : Bytes} {a : ℕ × ℕ} → IsRead AreLaneFlight Stops lane_flight_text mid on a → IsNone FitsNext Stops taken_text on → IsNone IsShown EndsLine entry_text (codes "take" ++ mid)
take_second t u = kind_none take_kind (second_none t u taken_opens)

-- an entry behind its word, and none

pub worded : {before : Bytes} (mid after word : Bytes) (res : Result Entry TextFault) → before ≡ word ++ mid → Reads IsShown EndsLine entry_text (word ++ mid) after res → Reads IsShown EndsLine entry_text before after res
worded mid after word res e t = subst (λ b. Reads IsShown EndsLine entry_text b after res) (sym e) t

-- no word of an entry stands there
pub record NoWord (before : Bytes) : Type 0 where
  pub publish : (r : Bytes) → before ≡ codes "publish" ++ r → ⊥
  pub admit : (r : Bytes) → before ≡ codes "admit" ++ r → ⊥
  pub lease : (r : Bytes) → before ≡ codes "lease" ++ r → ⊥
  pub give : (r : Bytes) → before ≡ codes "give" ++ r → ⊥
  pub lose : (r : Bytes) → before ≡ codes "lose" ++ r → ⊥
  pub land : (r : Bytes) → before ≡ codes "land" ++ r → ⊥
  pub fall : (r : Bytes) → before ≡ codes "fall" ++ r → ⊥
  pub take : (r : Bytes) → before ≡ codes "take" ++ r → ⊥
  pub end : (r : Bytes) → before ≡ codes "end" ++ r → ⊥

no_word : (before : Bytes) → NoWord before → (y : Entry) (r : Bytes) → before ≡ entry_text y ++ r → ⊥
no_word before miss (Publish m t) r e = miss.publish (step_of_lane m t ++ r) e
no_word before miss (Admit m t w) r e = miss.admit ((step_of_lane m t ++ codes " met" ++ flat_map met_text w) ++ r) e
no_word before miss (Lease m f k g) r e = miss.lease ((link_text (m, f, k) ++ fresh_word g) ++ r) e
no_word before miss (Give m f k o u c) r e = miss.give ((link_text (m, f, k) ++ counts_of_text (o, u, c)) ++ r) e
no_word before miss (Lose m f k d o u c) r e = miss.lose ((link_text (m, f, k) ++ lost_of_text (d, o, u, c)) ++ r) e
no_word before miss (Land m f n h l) r e = miss.land ((size_text (m, f, n) ++ codes " clever " ++ kept_word h ++ codes " literal " ++ kept_word l) ++ r) e
no_word before miss (Fall m f v) r e = miss.fall ((flight_of_lane m f ++ cause_text v) ++ r) e
no_word before miss (Take m f x) r e = miss.take ((flight_of_lane m f ++ taken_text x) ++ r) e
no_word before miss (End m) r e = miss.end ((codes " lane " ++ decimal m) ++ r) e

pub no_entry : {before : Bytes} → NoWord before → IsNone IsShown EndsLine entry_text before
no_entry {before = before} miss = record { none = λ y r p q h. no_word before miss y r h }
