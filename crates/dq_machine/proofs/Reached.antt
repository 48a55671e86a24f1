-- Laws of the states that the machine comes to.
use Rattle.std.proofs.Common.{◌≡◌, ℕ, ◌-◌, ◌<◌, ◌≤◌, Bool, true, false, ◌&&◌, List, [], ◌∷◌, ◌++◌, length, get_or, slice_set, length-set, replicate, Option, Some, None, refl, ap, sym, ◌∙◌, arith}
use Rattle.std.proofs.lemmas.Bool.Decides.{nat_tests}
use Rattle.std.proofs.lemmas.List.{length-replicate}
use Rattle.std.specs.Prelude.{nat_lt, nat_le}
use Rattle.dq_base.specs.Scripts.{is_lane}
use Rattle.dq_extract.specs.Loads.{LoadedFiles}
use Rattle.dq_journal.specs.Journals.{lane_of}
use Rattle.dq_journal.specs.declared.entry.Entry.{Entry}
use Rattle.dq_machine.specs.Machine.{IsReached, after, allowed, legal, legal_from, may, next, run}
use Rattle.dq_machine.specs.State.{State, no_work, start, work_of}

-- tests

pub and_first : (a b : Bool) → (a && b) ≡ true → a ≡ true
and_first true b h = refl
and_first false b h = cc

pub and_second : (a b : Bool) → (a && b) ≡ true → b ≡ true
and_second true b h = h
and_second false b h = cc

pub and_both : (a b : Bool) → a ≡ true → b ≡ true → (a && b) ≡ true
and_both true b first second = second
and_both false b first second = cc

-- an allowed entry is of a lane of the script, and may come of its work

pub allowed_above : (l : LoadedFiles) (s : State) (e : Entry) → allowed l s e ≡ true → 0 < lane_of e
allowed_above l s e h =
    let known : is_lane (length s.works) (lane_of e) ≡ true = and_first (is_lane (length s.works) (lane_of e)) (may l s (work_of s (lane_of e)) e) h in
    let above : nat_lt 0 (lane_of e) ≡ true = and_first (nat_lt 0 (lane_of e)) (nat_le (lane_of e) (length s.works)) known in
    grind (arith, nat_tests)

pub allowed_within : (l : LoadedFiles) (s : State) (e : Entry) → allowed l s e ≡ true → lane_of e ≤ length s.works
allowed_within l s e h =
    let known : is_lane (length s.works) (lane_of e) ≡ true = and_first (is_lane (length s.works) (lane_of e)) (may l s (work_of s (lane_of e)) e) h in
    let within : nat_le (lane_of e) (length s.works) ≡ true = and_second (nat_lt 0 (lane_of e)) (nat_le (lane_of e) (length s.works)) known in
    grind (arith, nat_tests)

pub allowed_may : (l : LoadedFiles) (s : State) (e : Entry) → allowed l s e ≡ true → may l s (work_of s (lane_of e)) e ≡ true
allowed_may l s e h = and_second (is_lane (length s.works) (lane_of e)) (may l s (work_of s (lane_of e)) e) h

-- journals

run_append : (l : LoadedFiles) (s : State) (es fs : List Entry) → run l s (es ++ fs) ≡ run l (run l s es) fs
run_append l s [] fs = refl
run_append l s (e ∷ es) fs = run_append l (next l s e) es fs

legal_push : (l : LoadedFiles) (s : State) (es : List Entry) (e : Entry) → legal_from l s es ≡ true → allowed l (run l s es) e ≡ true → legal_from l s (es ++ e ∷ []) ≡ true
legal_push l s [] e h a = and_both (allowed l s e) true a refl
legal_push l s (x ∷ es) e h a =
    and_both (allowed l s x) (legal_from l (next l s x) (es ++ e ∷ [])) (and_first (allowed l s x) (legal_from l (next l s x) es) h)
    (legal_push l (next l s x) es e (and_second (allowed l s x) (legal_from l (next l s x) es) h) a)

pub IsReached-start : (l : LoadedFiles) → IsReached l (start l)
unfolding after legal
IsReached-start l = record { journal = []; legal = refl; after = refl }

pub IsReached-next : (l : LoadedFiles) (s : State) (e : Entry) → IsReached l s → allowed l s e ≡ true → IsReached l (next l s e)
unfolding after legal
IsReached-next l s e r a = record {
  journal = r.journal ++ e ∷ [];
  legal = legal_push l (start l) r.journal e r.legal (rw r.after a);
  after = run_append l (start l) r.journal (e ∷ []) ∙ ap (λ t. next l t e) r.after;
}

-- what holds at the start and is kept by each allowed entry holds in each state
module _ (l : LoadedFiles) (P : State → Type 0) (keeps : (s : State) (e : Entry) → P s → allowed l s e ≡ true → P (next l s e)) where
  run_keeps : (s : State) (es : List Entry) → P s → legal_from l s es ≡ true → P (run l s es)
  run_keeps s [] h legal = h
  run_keeps s (e ∷ es) h legal =
      run_keeps (next l s e) es (keeps s e h (and_first (allowed l s e) (legal_from l (next l s e) es) legal)) (and_second (allowed l s e) (legal_from l (next l s e) es) legal)

  pub reached_keeps : (s : State) → P (start l) → IsReached l s → P s
  unfolding after legal
  reached_keeps s first r = rw (← r.after) (run_keeps (start l) r.journal first r.legal)

-- there is a work for each lane
pub reached-works : (l : LoadedFiles) (s : State) → IsReached l s → length s.works ≡ length l.script.lanes
reached-works l s r =
    reached_keeps l (λ s. length s.works ≡ length l.script.lanes) (λ s e h a. length-set s.works (lane_of e - 1) _ ∙ h) s (length-replicate (length l.script.lanes) no_work) r
