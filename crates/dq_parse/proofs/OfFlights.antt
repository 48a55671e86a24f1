-- Readings of what is told of a flight.
use Rattle.std.proofs.Common.{◌≡◌, ℕ, Bool, true, false, ◌++◌, decimal, codes, refl, sym, ap, ◌∙◌, append_assoc, arith}
use Rattle.dq_base.specs.Rests.{Stops}
use Rattle.dq_base.specs.Sizes.{Fits}
use Rattle.dq_base.specs.Spelling.{Bytes}
use Rattle.dq_base.proofs.Told.{second}
use Rattle.dq_reading.specs.Reading.{IsRead, IsNone}
use Rattle.dq_reading.proofs.Readings.{pair_read, first_none, second_none, as_read, as_none, lead_read, lead_none}
use Rattle.dq_report.specs.Report.{flight_of_lane}
use Rattle.dq_parse.specs.Reading.{AreCounts, AreLaneFlight, AreLost, AreOfFlight, counts_of_text, labelled, lane_flight_text, lost_of_text}

abbrev pub of_text : Bytes → ℕ × ℕ × ℕ → Bytes
of_text word p = flight_of_lane p.0 p.1 ++ word ++ decimal p.2

abbrev Pair : Type 0
Pair = (ℕ × ℕ) × ℕ

abbrev FitPair : Pair → Type 0
FitPair p = AreLaneFlight p.0 × Fits p.1

abbrev pair_text : Bytes → Pair → Bytes
pair_text word p = lane_flight_text p.0 ++ labelled word p.1

abbrev three : Pair → ℕ × ℕ × ℕ
three p = (p.0.0, p.0.1, p.1)

same : (word : Bytes) (z : Pair) → FitPair z → of_text word (three z) ≡ pair_text word z
same word z p = append_assoc (flight_of_lane z.0.0 z.0.1) word (decimal z.1)

back : (word : Bytes) (before : Bytes) (y : ℕ × ℕ × ℕ) (r : Bytes) → AreOfFlight y → Stops r → before ≡ of_text word y ++ r → (z : Pair) × (y ≡ three z) × FitPair z
back word before y r p q h = (((y.0, y.1), y.2), refl, ((p.0, p.1), p.2))

pub of_read : {before mid after : Bytes} {l f n : ℕ} (word : Bytes) → ((m : ℕ) (r : Bytes) → Stops (labelled word m ++ r)) → IsRead AreLaneFlight Stops lane_flight_text before mid (l, f) → IsRead Fits Stops (labelled word) mid after n
    → IsRead AreOfFlight Stops (of_text word) before after (l, f, n)
of_read {before = before} word opens t u = as_read three (same word) (λ z p. (p.0.0, p.0.1, p.1)) (back word before) (pair_read t u (λ m r p q. opens m r))

pub of_first_none : {before : Bytes} (word : Bytes) → ((m : ℕ) (r : Bytes) → Stops (labelled word m ++ r)) → IsNone AreLaneFlight Stops lane_flight_text before → IsNone AreOfFlight Stops (of_text word) before
of_first_none {before = before} word opens t = as_none three (same word) (back word before) (first_none (labelled word) t (λ m r (p : Fits m) (q : Stops r). opens m r))

pub of_second_none : {before mid : Bytes} {l f : ℕ} (word : Bytes) → ((m : ℕ) (r : Bytes) → Stops (labelled word m ++ r)) → IsRead AreLaneFlight Stops lane_flight_text before mid (l, f) → IsNone Fits Stops (labelled word) mid
    → IsNone AreOfFlight Stops (of_text word) before
of_second_none {before = before} word opens t u = as_none three (same word) (back word before) (second_none t u (λ m r p q. opens m r))

-- what was dialled

abbrev Counts : Type 0
Counts = Bool × ℕ × ℕ

abbrev Lost : Type 0
Lost = Bool × Bool × ℕ × ℕ

abbrev dialled : Counts → Lost
dialled z = (true, z.0, z.1, z.2)

lost_back : (d ran : Bool) (runs calls : ℕ) (r mid : Bytes) → AreLost (d, ran, runs, calls) → codes " dialled" ++ mid ≡ lost_of_text (d, ran, runs, calls) ++ r
    → (z : Counts) × (◌≡◌ {A = Lost} (d, ran, runs, calls) (dialled z)) × AreCounts z
lost_back true ran runs calls r mid p e = ((ran, runs, calls), refl, (p.1, p.2))
lost_back false ran runs calls r mid p e = absurd (omega (arith, ap second e))

pub lost_read : {before mid after : Bytes} {z : Bool × ℕ × ℕ} → before ≡ codes " dialled" ++ mid → IsRead AreCounts Stops counts_of_text mid after z → IsRead AreLost Stops lost_of_text before after (true, z.0, z.1, z.2)
lost_read {mid = mid} e t = as_read dialled (λ z p. refl) (λ z p. (tt, p.0, p.1)) (λ y r p q h. lost_back y.0 y.1 y.2 y.3 r mid p (sym e ∙ h)) (lead_read (codes " dialled") e t)

pub lost_none : {before mid : Bytes} → before ≡ codes " dialled" ++ mid → IsNone AreCounts Stops counts_of_text mid → IsNone AreLost Stops lost_of_text before
lost_none {mid = mid} e t = as_none dialled (λ z p. refl) (λ y r p q h. lost_back y.0 y.1 y.2 y.3 r mid p (sym e ∙ h)) (lead_none (codes " dialled") e t)
