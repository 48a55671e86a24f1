-- What a turn of a lane leaves of all lanes.
use Rattle.std.proofs.Common.{◌≡◌, ◌≢◌, ℕ, ◌+◌, ◌-◌, ◌<◌, ◌≤◌, Bool, true, false, eqb, List, [], ◌∷◌, ◌++◌, length, length-append, get_or, slice_set, length-set, ◌⊎◌, inl, inr, refl, ap, sym, ◌∙◌, arith}
use Rattle.std.proofs.lemmas.Grind.{common_steps}
use Rattle.std.proofs.lemmas.List.{get_or-set_same, get_or-set_other}
use Rattle.std.proofs.lemmas.List.Sums.{sum_by-set}
use Rattle.std.specs.Prelude.{None, Some}
use Rattle.dq_extract.specs.Loads.{LoadedFiles}
use Rattle.dq_fates.specs.GoingOn.{GoesOn}
use Rattle.dq_fates.proofs.GoingOn.{goes_on_other}
use Rattle.dq_journal.specs.Journals.{lane_of}
use Rattle.dq_journal.specs.declared.entry.Entry.{Entry}
use Rattle.dq_journal.specs.declared.entry.Entry.TheVariants.{End}
use Rattle.dq_laws.specs.Lengths.{entries_for}
use Rattle.dq_laws.proofs.Coming.{short_for}
use Rattle.dq_machine.specs.Machine.{legal}
use Rattle.dq_rehearse.specs.Lanes.{AreOn, IsOn, no_lane}
use Rattle.dq_rehearse.specs.Turns.{ArePassing, IsPassing, Passed, Turned, TurnedBy, Turns, left_of, turns_left}
use Rattle.dq_lane.specs.Turns.{Moves}
use Rattle.dq_lane.specs.View.{LaneOf, steps_of}

-- places

pub decide : (k i : ℕ) → (k ≡ i) ⊎ (k ≢ i)
decide k i = (elim (eqb k i) as (λ b. eqb k i ≡ b → (k ≡ i) ⊎ (k ≢ i)) [
  | true ↦ λ t. let same : k ≡ i = grind (arith, common_steps) in inl same
  | false ↦ λ t. let other : k ≢ i = grind (arith, common_steps) in inr other
]) refl

-- journals

-- the journal is as it was, or has one more entry, of the lane
abbrev GrewBy : ℕ → List Entry → List Entry → Type 0
GrewBy lane old new = (new ≡ old) ⊎ ((e : Entry) × (new ≡ old ++ e ∷ []) × (lane_of e ≡ lane))

grew : (l : LoadedFiles) (number : ℕ) (v w : LaneOf) (old new : List Entry) (moved : Bool) → v.number ≡ number → TurnedBy moved l number v w old new → GrewBy number old new
grew l number v w old new true is (going, inl m) = inl m.journal
grew l number v w old new true is (going, inr (inl m)) = inr (m.entry, m.journal, m.of_lane ∙ is)
grew l number v w old new true is (going, inr (inr (inl m))) = inr (m.entry, m.journal, m.of_lane ∙ is)
grew l number v w old new true is (going, inr (inr (inr m))) = inr (End v.number, m.journal, is)
grew l number v w old new false is t = inl t.3

goes_further : (lane other : ℕ) (seen old new : List Entry) → other ≢ lane → GoesOn lane seen old → GrewBy other old new → GoesOn lane seen new
goes_further lane other seen old new ne g (inl e) = rw e g
goes_further lane other seen old new ne g (inr w) = rw w.1 (goes_on_other lane seen old w.0 g (rw w.2 ne))

-- the lanes stand on the journal

IsOn-turn : (l : LoadedFiles) (old new : List Entry) (lanes : List LaneOf) (i : ℕ) (w : LaneOf) (k : ℕ) → i < length lanes → AreOn l old lanes → IsOn l new (i + 1) w → GrewBy (i + 1) old new
    → k < length lanes → (k ≡ i) ⊎ (k ≢ i) → IsOn l new (k + 1) (get_or (slice_set lanes i w) k (no_lane l))
IsOn-turn l old new lanes i w k lt h on grew le (inl e) = rw (e, get_or-set_same lanes i w (no_lane l) lt) on
IsOn-turn l old new lanes i w k lt h on grew le (inr ne) =
    let was = h.each k le in
    let other : i + 1 ≢ k + 1 = omega arith in
    rw (get_or-set_other lanes i k w (no_lane l) ne) (record { numbered = was.numbered; loaded = was.loaded; goes_on = goes_further (k + 1) (i + 1) _ old new other was.goes_on grew })

pub AreOn-turn : (l : LoadedFiles) (old new : List Entry) (lanes : List LaneOf) (i : ℕ) (v w : LaneOf) (moved : Bool) → i < length lanes → AreOn l old lanes → v.number ≡ i + 1 → Turns l (i + 1) v w old new moved
    → AreOn l new (slice_set lanes i w)
AreOn-turn l old new lanes i v w moved lt h is t = record {
  count = length-set lanes i w ∙ h.count;
  each = λ k le. let within : k < length lanes = rw length-set at le in IsOn-turn l old new lanes i w k lt h t.on (grew l (i + 1) v w old new moved is t.turn) within (decide k i);
}

-- turns to come

-- one entry more takes one of those that the journal may have
entry_less : (l : LoadedFiles) (old new : List Entry) (e : Entry) → legal l new ≡ true → new ≡ old ++ e ∷ []
    → (entries_for l.script.lanes - length new) + 1 ≡ entries_for l.script.lanes - length old
entry_less l old new e legal is =
    let longer : length new ≡ length old + 1 = ap length is ∙ length-append old (e ∷ []) in
    omega (arith, longer, short_for l new legal)

abbrev taken_by : LoadedFiles → LaneOf → LaneOf → List Entry → List Entry → Type 0
taken_by l v w old new = left_of w + (entries_for l.script.lanes - length new) + 1 ≤ left_of v + (entries_for l.script.lanes - length old)

same_steps : (l : LoadedFiles) (number : ℕ) (v w : LaneOf) → v.loaded ≡ l → v.number ≡ number → w.loaded ≡ l → w.number ≡ number
    → length (steps_of w.loaded w.number) ≡ length (steps_of v.loaded v.number)
same_steps l number v w vl vn wl wn = rw (vl, vn, wl, wn) refl

moved_less : (l : LoadedFiles) (v w : LaneOf) (old new : List Entry) → legal l new ≡ true → length (steps_of w.loaded w.number) ≡ length (steps_of v.loaded v.number) → Moves v w old new → taken_by l v w old new
moved_less l v w old new legal steps (inl m) =
    let longer : length w.places ≡ length v.places + 1 = ap length m.places ∙ length-append v.places (None ∷ []) in
    let same : length new ≡ length old = ap length m.journal in
    omega (arith, longer, same, m.below, steps)
moved_less l v w old new legal steps (inr (inl m)) =
    let longer : length w.places ≡ length v.places + 1 = ap length m.places ∙ length-append v.places (Some (length new) ∷ []) in
    omega (arith, longer, m.below, steps, entry_less l old new m.entry legal m.journal)
moved_less l v w old new legal steps (inr (inr (inl m))) =
    let same : length w.places ≡ length v.places = ap length m.places in
    omega (arith, same, steps, entry_less l old new m.entry legal m.journal)
moved_less l v w old new legal steps (inr (inr (inr m))) =
    let same : length w.places ≡ length v.places = ap length m.places in
    omega (arith, same, steps, entry_less l old new (End v.number) legal m.journal)

IsPassing-keeps : (l : LoadedFiles) (old new : List Entry) (lanes : List LaneOf) (i : ℕ) (v w : LaneOf) (k : ℕ) → i < length lanes → get_or lanes i (no_lane l) ≡ v → w.done ≡ v.done → new ≡ old → (k ≡ i) ⊎ (k ≢ i)
    → IsPassing l old lanes k → IsPassing l new (slice_set lanes i w) k
IsPassing-keeps l old new lanes i v w k lt at done same (inl e) h =
    let was : (get_or lanes k (no_lane l)).done ≡ v.done = rw (e, at) refl in
    record {
      passes = rw same h.passes;
      ended = rw (same, h.ended, was, e, get_or-set_same lanes i w (no_lane l) lt) (sym done);
    }
IsPassing-keeps l old new lanes i v w k lt at done same (inr ne) h = record {
  passes = rw same h.passes;
  ended = rw (same, get_or-set_other lanes i k w (no_lane l) ne) h.ended;
}

pub Turned-turn : (l : LoadedFiles) (old new : List Entry) (lanes : List LaneOf) (i : ℕ) (v w : LaneOf) (moved : Bool) → i < length lanes → get_or lanes i (no_lane l) ≡ v → IsOn l old (i + 1) v → Turns l (i + 1) v w old new moved
    → Turned l i lanes (slice_set lanes i w) old new moved
Turned-turn l old new lanes i v w true lt at on t =
    let sums = sum_by-set left_of lanes i w (no_lane l) lt in
    let left : left_of (get_or lanes i (no_lane l)) ≡ left_of v = ap left_of at in
    let less = moved_less l v w old new t.legal (same_steps l (i + 1) v w on.loaded on.numbered t.on.loaded t.on.numbered) t.turn.1 in
    (length-set lanes i w, omega (arith, sums, left, less))
Turned-turn l old new lanes i v w false lt at on t =
    let sums = sum_by-set left_of lanes i w (no_lane l) lt in
    let left : left_of (get_or lanes i (no_lane l)) ≡ left_of v = ap left_of at in
    let turn = t.turn in
    let steps = same_steps l (i + 1) v w on.loaded on.numbered t.on.loaded t.on.numbered in
    let places : length w.places ≡ length v.places = ap length turn.2 in
    let entries : length new ≡ length old = ap length turn.3 in
    record {
      count = length-set lanes i w;
      left = omega (arith, sums, left, steps, places, entries);
      passing = record { passes = rw turn.3 turn.0; ended = rw (get_or-set_same lanes i w (no_lane l) lt, turn.3, turn.1) t.ended };
      keeps = λ k h. IsPassing-keeps l old new lanes i v w k lt at turn.1 turn.3 (decide k i) h;
    }

-- a round in which nothing moved so far

passing-next : (l : LoadedFiles) (place : ℕ) (old new : List LaneOf) (before now : List Entry) → Passed l place old new before now → ArePassing l before old place → (k : ℕ) → k < place + 1 → (k ≡ place) ⊎ (k ≢ place) → IsPassing l now new k
passing-next l place old new before now p h k lt (inl e) = rw e p.passing
passing-next l place old new before now p h k lt (inr ne) = p.keeps k (h.each k (omega arith))

pub ArePassing-more : (l : LoadedFiles) (place : ℕ) (old new : List LaneOf) (before now : List Entry) → Passed l place old new before now → ArePassing l before old place → ArePassing l now new (place + 1)
ArePassing-more l place old new before now p h = record { each = λ k lt. passing-next l place old new before now p h k lt (decide k place) }

-- a turn leaves as many lanes, and no more turns

pub count_same : (l : LoadedFiles) (place : ℕ) (old new : List LaneOf) (before now : List Entry) (moved : Bool) → Turned l place old new before now moved → length new ≡ length old
count_same l place old new before now true t = t.0
count_same l place old new before now false t = t.count

pub left_same : (l : LoadedFiles) (place : ℕ) (old new : List LaneOf) (before now : List Entry) (moved : Bool) → Turned l place old new before now moved → turns_left l now new ≤ turns_left l before old
left_same l place old new before now true t = omega (arith, t.1)
left_same l place old new before now false t = omega (arith, t.left)

pub left_less : (l : LoadedFiles) (place : ℕ) (old new : List LaneOf) (before now : List Entry) (moved : Bool) → Turned l place old new before now moved → moved ≡ true → turns_left l now new < turns_left l before old
left_less l place old new before now true t is = omega (arith, t.1)
left_less l place old new before now false t is = cc

pub passed : (l : LoadedFiles) (place : ℕ) (old new : List LaneOf) (before now : List Entry) (moved : Bool) → Turned l place old new before now moved → moved ≡ false → Passed l place old new before now
passed l place old new before now true t is = cc
passed l place old new before now false t is = t
