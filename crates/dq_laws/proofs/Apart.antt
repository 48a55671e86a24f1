-- Entries of other lanes leave a lane's work, and the flights that it brings, as they were.
use Rattle.std.proofs.Common.{◌≡◌, ◌≢◌, inl, inr, ℕ, ◌-◌, ◌<◌, true, false, cond, eqb, List, [], ◌∷◌, ◌++◌, refl, ◌∙◌, arith}
use Rattle.std.proofs.lemmas.Bool.Decides.{eqb_tells}
use Rattle.std.proofs.lemmas.List.{get_or-set_other}
use Rattle.std.specs.Prelude.{◌⊎◌}
use Rattle.dq_extract.specs.Loads.{LoadedFiles}
use Rattle.dq_journal.specs.Journals.{lane_of}
use Rattle.dq_journal.specs.Steps.{entries_of}
use Rattle.dq_journal.specs.declared.entry.Entry.{Entry}
use Rattle.dq_machine.proofs.Reached.{IsReached-next, allowed_above, and_first, and_second}
use Rattle.dq_machine.specs.Machine.{IsReached, after, allowed, legal, legal_from, next, run, work_by}
use Rattle.dq_machine.specs.State.{State, flight_at, no_work, start, work_of}
use Rattle.dq_laws.specs.Flying.{OwnStay, StaysAt}
use Rattle.dq_laws.proofs.Each.{all_each}
use Rattle.dq_laws.proofs.Flying.{IsFlying-reached, each_among, here_stays, others_stay, stays_both}
use Rattle.dq_laws.proofs.Goes.{legal_reached}
use Rattle.dq_laws.proofs.Over.{legal_before, legal_behind}
use Rattle.dq_laws.proofs.Owned.{Among}
use Rattle.dq_laws.proofs.Stays.{run_append}

record Leaves (old new : State) (lane : ℕ) : Type 0 where
  work : work_of new lane ≡ work_of old lane
  each : (n : ℕ) → Among n (work_of old lane).own → StaysAt (flight_at old n) (flight_at new n)

pub record LaneStays (old new : State) (lane : ℕ) : Type 0 where
  pub work : work_of new lane ≡ work_of old lane
  pub flights : OwnStay old new lane

left_so : (old new : State) (lane : ℕ) → Leaves old new lane → LaneStays old new lane
left_so old new lane h =
    let P : ℕ → Type 0 = λ n. StaysAt (flight_at old n) (flight_at new n) in
    record { work = h.work; flights = all_each P (work_of old lane).own (each_among P (work_of old lane).own h.each) }

leaves_both : (one two three : State) (lane : ℕ) → Leaves one two lane → Leaves two three lane → Leaves one three lane
leaves_both one two three lane h k = record {
  work = k.work ∙ h.work;
  each = λ n a. let b : Among n (work_of two lane).own = rw h.work a in stays_both (flight_at one n) (flight_at two n) (flight_at three n) (h.each n a) (k.each n b);
}

leaves_next : (l : LoadedFiles) (s : State) (e : Entry) (lane : ℕ) → IsReached l s → allowed l s e ≡ true → 0 < lane → lane_of e ≢ lane → Leaves s (next l s e) lane
leaves_next l s e lane r may above ne =
    let apart : lane - 1 ≢ lane_of e - 1 = λ is. ne (omega (arith, is, above, allowed_above l s e may)) in
    record {
      work = get_or-set_other s.works (lane_of e - 1) (lane - 1) (work_by l s (work_of s (lane_of e)) e) no_work apart;
      each = λ n a. others_stay l s r (IsFlying-reached l s r) e may lane n above ne a;
    }

none_kept : (e : Entry) (kept es : List Entry) → cond true (e ∷ kept) es ≡ [] → ⊥
none_kept e kept es h = cc

module _ (l : LoadedFiles) (lane : ℕ) (above : 0 < lane) where
  apart_from : (e : Entry) (es : List Entry) → entries_of lane (e ∷ es) ≡ [] → ((eqb (lane_of e) lane ≡ true) × (lane_of e ≡ lane)) ⊎ ((eqb (lane_of e) lane ≡ false) × (lane_of e ≢ lane))
      → (lane_of e ≢ lane) × (entries_of lane es ≡ [])
  apart_from e es idle (inl (told, same)) = absurd (none_kept e (entries_of lane es) (entries_of lane es) (rw told at idle))
  apart_from e es idle (inr (told, ne)) = let rest : entries_of lane es ≡ [] = rw told at idle in (ne, rest)

  leaves_run : (s : State) (es : List Entry) → IsReached l s → legal_from l s es ≡ true → entries_of lane es ≡ [] → Leaves s (run l s es) lane
  leaves_run s [] r lawful idle = record { work = refl; each = λ n a. here_stays lane (flight_at s n) ((IsFlying-reached l s r).each lane n above a) }
  leaves_run s (e ∷ es) r lawful idle =
      let may = and_first (allowed l s e) (legal_from l (next l s e) es) lawful in
      let both = apart_from e es idle (eqb_tells (lane_of e) lane) in
      leaves_both s (next l s e) (run l (next l s e) es) lane (leaves_next l s e lane r may above both.0)
      (leaves_run (next l s e) es (IsReached-next l s e r may) (and_second (allowed l s e) (legal_from l (next l s e) es) lawful) both.1)

-- journals

after_more : (l : LoadedFiles) (journal more : List Entry) → after l (journal ++ more) ≡ run l (after l journal) more
unfolding after
after_more l journal more = run_append l (start l) journal more

legal_first : (l : LoadedFiles) (journal more : List Entry) → legal l (journal ++ more) ≡ true → legal l journal ≡ true
unfolding legal
legal_first l journal more lawful = legal_before l (start l) journal more lawful

legal_rest : (l : LoadedFiles) (journal more : List Entry) → legal l (journal ++ more) ≡ true → legal_from l (after l journal) more ≡ true
unfolding after legal
legal_rest l journal more lawful = legal_behind l (start l) journal more lawful

pub idle_stays : (l : LoadedFiles) (journal more : List Entry) (lane : ℕ) → legal l (journal ++ more) ≡ true → 0 < lane → entries_of lane more ≡ []
    → LaneStays (after l journal) (after l (journal ++ more)) lane
idle_stays l journal more lane lawful above idle =
    let r = legal_reached l journal (legal_first l journal more lawful) in
    rw (after_more l journal more)
    (left_so (after l journal) (run l (after l journal) more) lane (leaves_run l lane above (after l journal) more r (legal_rest l journal more lawful) idle))

none_of : (lane : ℕ) (e : Entry) → lane_of e ≢ lane → ((eqb (lane_of e) lane ≡ true) × (lane_of e ≡ lane)) ⊎ ((eqb (lane_of e) lane ≡ false) × (lane_of e ≢ lane))
    → entries_of lane (e ∷ []) ≡ []
none_of lane e ne (inl (told, same)) = absurd (ne same)
none_of lane e ne (inr (told, apart)) = rw told refl

pub lane_stays : (l : LoadedFiles) (journal : List Entry) (e : Entry) (lane : ℕ) → legal l (journal ++ e ∷ []) ≡ true → 0 < lane → lane_of e ≢ lane
    → LaneStays (after l journal) (after l (journal ++ e ∷ [])) lane
lane_stays l journal e lane lawful above ne = idle_stays l journal (e ∷ []) lane lawful above (none_of lane e ne (eqb_tells (lane_of e) lane))
