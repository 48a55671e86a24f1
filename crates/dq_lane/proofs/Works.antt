-- The work of a lane at first, and after an entry of its own.
use Rattle.std.proofs.Common.{◌≡◌, ℕ, zero, suc, ◌+◌, ◌-◌, ◌<◌, Bool, true, false, ◌&&◌, List, [], ◌∷◌, ◌++◌, length, get_or, replicate, refl, ap, ◌∙◌}
use Rattle.std.proofs.lemmas.List.{get_or-set_same}
use Rattle.std.specs.Prelude.{not}
use Rattle.dq_extract.specs.Loads.{LoadedFiles}
use Rattle.dq_fates.proofs.Bringing.{there}
use Rattle.dq_journal.specs.Journals.{lane_of}
use Rattle.dq_journal.specs.declared.entry.Entry.{Entry}
use Rattle.dq_laws.proofs.Pushed.{pushed}
use Rattle.dq_machine.specs.Machine.{after, legal, work_by}
use Rattle.dq_machine.specs.State.{Work, is_free, no_work, none_left, work_of}
use Rattle.dq_lane.specs.Kept.{is_idle}
use Rattle.dq_lane.proofs.Limits.{both_true}

fresh_at : (n i : ℕ) → get_or (replicate n no_work) i no_work ≡ no_work
fresh_at zero zero = refl
fresh_at zero (suc i) = refl
fresh_at (suc n) zero = refl
fresh_at (suc n) (suc i) = fresh_at n i

pub nothing_legal : (l : LoadedFiles) → legal l [] ≡ true
unfolding legal
nothing_legal l = refl

pub nothing_done : (l : LoadedFiles) (lane : ℕ) → work_of (after l []) lane ≡ no_work
unfolding after
nothing_done l lane = fresh_at (length l.script.lanes) (lane - 1)

-- an entry sets the work of its lane
pub work_set : (l : LoadedFiles) (old : List Entry) (e : Entry) → legal l (old ++ e ∷ []) ≡ true
    → work_of (after l (old ++ e ∷ [])) (lane_of e) ≡ work_by l (after l old) (work_of (after l old) (lane_of e)) e
work_set l old e lawful =
    let p = pushed l old e lawful in
    ap (λ s. work_of s (lane_of e)) p.after
    ∙ get_or-set_same (after l old).works (lane_of e - 1) (work_by l (after l old) (work_of (after l old) (lane_of e)) e) no_work (there l (after l old) e p.allowed)

-- an idle lane that hasn't ended is free

idle_free : (ended idle : Bool) → ended ≡ false → idle ≡ true → (not ended && idle) ≡ true
idle_free true idle going h = cc
idle_free false idle going h = h

and_right : (a b c : Bool) → (a && b && c) ≡ (a && (b && c))
and_right true b c = refl
and_right false b c = refl

pub free_of : (w : Work) → w.ended ≡ false → is_idle w ≡ true → is_free w ≡ true
free_of w going idle = and_right (not w.ended) (none_left w.own) (none_left w.joins) ∙ idle_free w.ended (is_idle w) going idle

pub idle_of : (w : Work) → is_free w ≡ true → is_idle w ≡ true
idle_of w free = (both_true (not w.ended) (is_idle w) (let same : (not w.ended && is_idle w) ≡ is_free w = sym-of w in same ∙ free)).1
  where
    sym-of : (w : Work) → (not w.ended && is_idle w) ≡ is_free w
    sym-of w = back (not w.ended) (none_left w.own) (none_left w.joins)
      where
        back : (a b c : Bool) → (a && (b && c)) ≡ (a && b && c)
        back true b c = refl
        back false b c = refl
