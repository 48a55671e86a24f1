-- The journal follows the turns so far.
use Rattle.std.proofs.Common.{◌≡◌, ◌≢◌, ℕ, zero, suc, ◌+◌, ◌-◌, ◌<◌, ◌≤◌, Bool, true, false, ◌&&◌, List, [], ◌∷◌, ◌++◌, map, length, get_or, slice_get, slice_set, length-set, replicate, Option, Some, None, ◌⊎◌, inl, inr, refl, ap, sym, ◌∙◌, subst, arith, append_assoc, append-nil, length-append}
use Rattle.std.proofs.lemmas.List.{get_or-set_same, get_or-set_other, set-get_or}
use Rattle.std.specs.List.{range_with_len}
use Rattle.dq_extract.specs.Loads.{LoadedFiles}
use Rattle.dq_journal.specs.Journals.{lane_of}
use Rattle.dq_journal.specs.Steps.{is_end, step_in}
use Rattle.dq_laws.proofs.Pushed.{pushed}
use Rattle.dq_machine.proofs.Reached.{and_both}
use Rattle.dq_journal.specs.declared.entry.Entry.{Entry}
use Rattle.dq_journal.specs.declared.entry.Entry.TheVariants.{End}
use Rattle.dq_machine.specs.Machine.{after, legal}
use Rattle.dq_machine.specs.State.{Work, State, is_free, work_of}
use Rattle.dq_machine.specs.Taking.{waits}
use Rattle.dq_lane.specs.Turns.{Begins, Ends, GoesAhead, Moves, Refuses}
use Rattle.dq_lane.specs.View.{LaneOf, new_lane}
use Rattle.dq_rehearse.specs.Follows.{Cursor, FollowsTurns, TurnBy, Turn, Walk, at_start, is_refused, next_place, passes, rounds_of, use_up}
use Rattle.dq_rehearse.specs.Lanes.{AreOn, all_new, no_lane, places_in}
use Rattle.dq_rehearse.specs.Turns.{AreOver, FollowsSoFar, HavePlayed, MayAllEndWith, MayEndWith, Turns, cursor, passes_at, used_len}
use Rattle.dq_rehearse.proofs.New.{range-more}
use Rattle.dq_rehearse.proofs.Passing.{Goes, first_false, free_goes, goes_by, second_false}
use Rattle.dq_rehearse.proofs.Turned.{decide}

-- lists

map-set : (lanes : List LaneOf) (i : ℕ) (v : LaneOf) → map used_len (slice_set lanes i v) ≡ slice_set (map used_len lanes) i (used_len v)
map-set [] i v = refl
map-set (x ∷ lanes) zero v = refl
map-set (x ∷ lanes) (suc i) v = ap (λ r. used_len x ∷ r) (map-set lanes i v)

used_at : (l : LoadedFiles) (lanes : List LaneOf) (i : ℕ) → i < length lanes → get_or (map used_len lanes) i 0 ≡ used_len (get_or lanes i (no_lane l))
used_at l [] i lt = absurd (omega arith)
used_at l (x ∷ lanes) zero lt = refl
used_at l (x ∷ lanes) (suc i) lt = used_at l lanes i (omega arith)

slice_get-next : {X : Type 0} (xs more : List X) (x : X) → slice_get (xs ++ x ∷ more) (length xs) ≡ Some x
slice_get-next [] more x = refl
slice_get-next (y ∷ xs) more x = slice_get-next xs more x

slice_get-end : {X : Type 0} (xs : List X) → slice_get xs (length xs) ≡ None
slice_get-end [] = refl
slice_get-end (y ∷ xs) = slice_get-end xs

-- one turn more
Walk-push : (l : LoadedFiles) (places : List (List (Option ℕ))) (c : Cursor) (turns : List ℕ) (d : Cursor) (lane : ℕ) (e : Cursor) → Walk l places c turns d → Turn l places d lane e → Walk l places c (turns ++ lane ∷ []) e
Walk-push l places c [] d lane e f t = (e, rw (← f) t, refl)
Walk-push l places c (x ∷ turns) d lane e f t = (f.0, f.1, Walk-push l places f.0 turns d lane e f.2 t)

-- the turn's parts at its lane

next_is : (l : LoadedFiles) (places : List (List (Option ℕ))) (old : List Entry) (lanes : List LaneOf) (i : ℕ) (v : LaneOf) (o : Option (Option ℕ)) → i < length lanes → get_or lanes i (no_lane l) ≡ v
    → slice_get (get_or places i []) (length v.places) ≡ o → next_place places (cursor old lanes) (i + 1) ≡ o
next_is l places old lanes i v o lt at h = let place : i + 1 - 1 ≡ i = omega arith in rw (place, used_at l lanes i lt, at) h

used_is : (l : LoadedFiles) (old : List Entry) (lanes : List LaneOf) (i count : ℕ) (v w : LaneOf) → i < length lanes → get_or lanes i (no_lane l) ≡ v → used_len w ≡ used_len v + count
    → slice_set (map used_len lanes) i (used_len w) ≡ use_up (cursor old lanes) (i + 1) count
used_is l old lanes i count v w lt at e = let place : i + 1 - 1 ≡ i = omega arith in rw (place, used_at l lanes i lt, at, e) refl

going : (s : State) (w : Work) → w.ended ≡ false → waits s w ≡ false → passes s w ≡ false
going s w ended goes = rw (ended, goes) refl

turn_going : (l : LoadedFiles) (places : List (List (Option ℕ))) (c : Cursor) (lane : ℕ) (d : Cursor) (refused : Bool) → passes_at l c.journal lane ≡ false
    → (is_free (work_of (after l c.journal) lane) && is_refused (next_place places c lane)) ≡ refused
    → TurnBy false refused c lane d → Turn l places c lane d
turn_going l places c lane d refused e r t = rw (e, r) t

turn_passes : (l : LoadedFiles) (places : List (List (Option ℕ))) (c : Cursor) (lane : ℕ) (d : Cursor) → passes_at l c.journal lane ≡ true → d ≡ c → Turn l places c lane d
turn_passes l places c lane d e t = rw e t

-- the cursor behind the turn of a lane
abbrev behind : List Entry → List LaneOf → ℕ → LaneOf → Cursor
behind new lanes i w = record { journal = new; used = slice_set (map used_len lanes) i (used_len w) }

-- the lane that has an entry didn't pass
entry_goes : (l : LoadedFiles) (old new : List Entry) (e : Entry) (lane : ℕ) → legal l new ≡ true → new ≡ old ++ e ∷ [] → lane_of e ≡ lane → Goes (after l old) (work_of (after l old) lane) (step_in e) (is_end e)
entry_goes l old new e lane lawful is of_lane =
    let p = pushed l old e (rw is at lawful) in
    subst (λ n. Goes (after l old) (work_of (after l old) n) (step_in e) (is_end e)) of_lane (goes_by l (after l old) e p.allowed)

-- a turn that moves
module _ (l : LoadedFiles) (places : List (List (Option ℕ))) (old new : List Entry) (lanes : List LaneOf) (i : ℕ) (v w : LaneOf)
    (lt : i < length lanes) (at : get_or lanes i (no_lane l) ≡ v) (numbered : v.number ≡ i + 1) (loaded : v.loaded ≡ l)
    (ended : (work_of (after l old) (i + 1)).ended ≡ false) (lawful : legal l new ≡ true) (may : MayEndWith w (get_or places i [])) where
  turn_refuses : Refuses v w old new → Turn l places (cursor old lanes) (i + 1) (behind new lanes i w)
  turn_refuses m =
      let there : slice_get (get_or places i []) (length v.places) ≡ Some None = rw (may.is, m.places, append_assoc v.places (None ∷ []) may.more) (slice_get-next v.places may.more None) in
      let longer : used_len w ≡ used_len v + 1 = rw m.places (omega (arith, length-append v.places (None ∷ []))) in
      let free : is_free (work_of (after l old) (i + 1)) ≡ true = subst (λ n. is_free (work_of (after l old) n) ≡ true) numbered (subst (λ f. is_free (work_of (after f old) v.number) ≡ true) loaded m.free) in
      let next = ap is_refused (next_is l places old lanes i v (Some None) lt at there) in
      turn_going l places (cursor old lanes) (i + 1) _ true (going (after l old) (work_of (after l old) (i + 1)) ended (free_goes (after l old) (work_of (after l old) (i + 1)) free))
      (and_both (is_free (work_of (after l old) (i + 1))) (is_refused (next_place places (cursor old lanes) (i + 1))) free next)
      (rw (m.journal, used_is l old lanes i 1 v w lt at longer) refl)

  turn_begins : Begins v w old new → Turn l places (cursor old lanes) (i + 1) (behind new lanes i w)
  turn_begins m =
      let place = Some (length new) in
      let there : slice_get (get_or places i []) (length v.places) ≡ Some place = rw (may.is, m.places, append_assoc v.places (place ∷ []) may.more) (slice_get-next v.places may.more place) in
      let longer : used_len w ≡ used_len v + 1 = rw m.places (omega (arith, length-append v.places (place ∷ []))) in
      let goes = entry_goes l old new m.entry (i + 1) lawful m.journal (m.of_lane ∙ numbered) in
      let next = ap is_refused (next_is l places old lanes i v (Some place) lt at there) in
      turn_going l places (cursor old lanes) (i + 1) _ false (going (after l old) (work_of (after l old) (i + 1)) ended goes.goes)
      (second_false (is_free (work_of (after l old) (i + 1))) (is_refused (next_place places (cursor old lanes) (i + 1))) next)
      (record { entry = m.entry; of_lane = m.of_lane ∙ numbered; is = rw (m.journal, used_is l old lanes i 1 v w lt at longer, m.names) refl })

  turn_goes_ahead : GoesAhead v w old new → Turn l places (cursor old lanes) (i + 1) (behind new lanes i w)
  turn_goes_ahead m =
      let same : used_len w ≡ used_len v + 0 = rw m.places (omega arith) in
      let goes = entry_goes l old new m.entry (i + 1) lawful m.journal (m.of_lane ∙ numbered) in
      turn_going l places (cursor old lanes) (i + 1) _ false (going (after l old) (work_of (after l old) (i + 1)) ended goes.goes)
      (first_false (is_free (work_of (after l old) (i + 1))) (is_refused (next_place places (cursor old lanes) (i + 1))) (goes.opens m.names m.goes))
      (record { entry = m.entry; of_lane = m.of_lane ∙ numbered; is = rw (m.journal, used_is l old lanes i 0 v w lt at same, m.names) refl })

  turn_ends : Ends v w old new → Turn l places (cursor old lanes) (i + 1) (behind new lanes i w)
  turn_ends m =
      let none : may.more ≡ [] = may.done m.done in
      let there : slice_get (get_or places i []) (length v.places) ≡ None = rw (may.is, none, m.places, append-nil v.places) (slice_get-end v.places) in
      let same : used_len w ≡ used_len v + 0 = rw m.places (omega arith) in
      let goes = entry_goes l old new (End v.number) (i + 1) lawful m.journal numbered in
      let next = ap is_refused (next_is l places old lanes i v None lt at there) in
      turn_going l places (cursor old lanes) (i + 1) _ false (going (after l old) (work_of (after l old) (i + 1)) ended goes.goes)
      (second_false (is_free (work_of (after l old) (i + 1))) (is_refused (next_place places (cursor old lanes) (i + 1))) next)
      (record { entry = End v.number; of_lane = numbered; is = rw (m.journal, used_is l old lanes i 0 v w lt at same) refl })

  turn_moves : Moves v w old new → Turn l places (cursor old lanes) (i + 1) (behind new lanes i w)
  turn_moves (inl m) = turn_refuses m
  turn_moves (inr (inl m)) = turn_begins m
  turn_moves (inr (inr (inl m))) = turn_goes_ahead m
  turn_moves (inr (inr (inr m))) = turn_ends m

-- what the lane may end with behind its turn, it might before

earlier : (v w : LaneOf) (tail places : List (Option ℕ)) → v.done ≡ false → w.places ≡ v.places ++ tail → MayEndWith w places → MayEndWith v places
earlier v w tail places going e m = record {
  more = tail ++ m.more;
  is = rw (m.is, e) (append_assoc v.places tail m.more);
  done = λ d. let bad : true ≡ false = sym d ∙ going in cc;
}

earlier_by : (v w : LaneOf) (old new : List Entry) (places : List (Option ℕ)) → v.done ≡ false → Moves v w old new → MayEndWith w places → MayEndWith v places
earlier_by v w old new places going (inl m) may = earlier v w (None ∷ []) places going m.places may
earlier_by v w old new places going (inr (inl m)) may = earlier v w (Some (length new) ∷ []) places going m.places may
earlier_by v w old new places going (inr (inr (inl m))) may = earlier v w [] places going (m.places ∙ sym (append-nil v.places)) may
earlier_by v w old new places going (inr (inr (inr m))) may = earlier v w [] places going (m.places ∙ sym (append-nil v.places)) may

-- the turn of a lane, and what it might end with before

turn_either : (l : LoadedFiles) (places : List (List (Option ℕ))) (old new : List Entry) (lanes : List LaneOf) (i : ℕ) (v w : LaneOf) (moved : Bool)
    → i < length lanes → get_or lanes i (no_lane l) ≡ v → v.number ≡ i + 1 → v.loaded ≡ l → Turns l (i + 1) v w old new moved → MayEndWith w (get_or places i [])
    → Turn l places (cursor old lanes) (i + 1) (behind new lanes i w) × MayEndWith v (get_or places i [])
turn_either l places old new lanes i v w true lt at numbered loaded t may =
    let turn = t.turn in
    (turn_moves l places old new lanes i v w lt at numbered loaded (t.ended ∙ turn.0) t.legal may turn.1, earlier_by v w old new (get_or places i []) turn.0 turn.1 may)
turn_either l places old new lanes i v w false lt at numbered loaded t may =
    let turn = t.turn in
    let used : used_len w ≡ get_or (map used_len lanes) i 0 = ap (λ ps. length ps) turn.2 ∙ sym (ap used_len at) ∙ sym (used_at l lanes i lt) in (
      turn_passes l places (cursor old lanes) (i + 1) _ turn.0 (rw (turn.3, used, set-get_or (map used_len lanes) i 0) refl),
      record { more = may.more; is = rw (← turn.2) may.is; done = λ e. may.done (turn.1 ∙ e) },
    )

may_at : (l : LoadedFiles) (lanes : List LaneOf) (places : List (List (Option ℕ))) (i : ℕ) (v w : LaneOf) (k : ℕ) → get_or lanes i (no_lane l) ≡ v → MayEndWith v (get_or places i [])
    → MayAllEndWith l (slice_set lanes i w) places → k < length lanes → (k ≡ i) ⊎ (k ≢ i) → MayEndWith (get_or lanes k (no_lane l)) (get_or places k [])
may_at l lanes places i v w k at may all le (inl e) = rw (e, at) may
may_at l lanes places i v w k at may all le (inr ne) =
    let there : MayEndWith (get_or (slice_set lanes i w) k (no_lane l)) (get_or places k []) = all.each k (rw (length-set lanes i w) le) in
    rw (get_or-set_other lanes i k w (no_lane l) ne) at there

pub FollowsSoFar-turn : (l : LoadedFiles) (old new : List Entry) (lanes : List LaneOf) (turns : List ℕ) (i : ℕ) (v w : LaneOf) (moved : Bool)
    → i < length lanes → get_or lanes i (no_lane l) ≡ v → v.number ≡ i + 1 → v.loaded ≡ l → Turns l (i + 1) v w old new moved
    → FollowsSoFar l old lanes turns → FollowsSoFar l new (slice_set lanes i w) (turns ++ (i + 1) ∷ [])
FollowsSoFar-turn l old new lanes turns i v w moved lt at numbered loaded t so_far = record {
  walk = λ places all.
      let here : MayEndWith w (get_or places i []) = rw (get_or-set_same lanes i w (no_lane l) lt) at (all.each i (rw (length-set lanes i w) lt)) in
      let either = turn_either l places old new lanes i v w moved lt at numbered loaded t here in
      let before : MayAllEndWith l lanes places = record { each = λ k le. may_at l lanes places i v w k at either.1 all le (decide k i) } in
      rw (map-set lanes i w) (Walk-push l places (at_start l) turns (cursor old lanes) (i + 1) _ (so_far.walk places before) either.0);
}

-- from the first turn to whole rounds

used_none : (l : LoadedFiles) (n a : ℕ) → map used_len (map (new_lane l) (range_with_len a n)) ≡ replicate n 0
used_none l zero a = refl
used_none l (suc n) a = ap (λ r. 0 ∷ r) (used_none l n (a + 1))

pub FollowsSoFar-start : (l : LoadedFiles) (journal : List Entry) (lanes : List LaneOf) → journal ≡ [] → lanes ≡ all_new l → FollowsSoFar l journal lanes []
FollowsSoFar-start l journal lanes none new = record { walk = λ places all. rw (none, new, used_none l (length l.script.lanes) 1) refl }

-- turns that were played

pub HavePlayed-none : (l : LoadedFiles) (journal : List Entry) (lanes : List LaneOf) → AreOn l journal lanes → HavePlayed l [] journal lanes journal lanes
HavePlayed-none l journal lanes on = record { on = on; follows = λ earlier h. rw (append-nil earlier) h }

pub HavePlayed-more : (l : LoadedFiles) (turns more : List ℕ) (j : List Entry) (u : List LaneOf) (k : List Entry) (v : List LaneOf) (m : List Entry) (w : List LaneOf)
    → HavePlayed l turns j u k v → HavePlayed l more k v m w → HavePlayed l (turns ++ more) j u m w
HavePlayed-more l turns more j u k v m w h g = record {
  on = g.on;
  follows = λ earlier f. rw (← append_assoc earlier turns more) (g.follows (earlier ++ turns) (h.follows earlier f));
}

pub round-more : (place : ℕ) → range_with_len 1 place ++ (place + 1) ∷ [] ≡ range_with_len 1 (place + 1)
round-more place = let e : place + 1 ≡ 1 + place = omega arith in rw (range-more 1 place, e) refl

-- at the end

ends_at : (lanes : List LaneOf) (l : LoadedFiles) (k : ℕ) → k < length lanes → (get_or lanes k (no_lane l)).places ≡ get_or (map places_in lanes) k []
ends_at [] l k lt = absurd (omega arith)
ends_at (v ∷ lanes) l zero lt = refl
ends_at (v ∷ lanes) l (suc k) lt = ends_at lanes l k (omega arith)

may_end : (l : LoadedFiles) (lanes : List LaneOf) → MayAllEndWith l lanes (map places_in lanes)
may_end l lanes = record { each = λ k lt. record { more = []; is = sym (ends_at lanes l k lt) ∙ sym (append-nil _); done = λ d. refl } }

over_at : (l : LoadedFiles) (journal : List Entry) (lanes : List LaneOf) → AreOver l journal lanes (length lanes) → (lane : ℕ) → 0 < lane → lane ≤ length lanes → (work_of (after l journal) lane).ended ≡ true
over_at l journal lanes h lane some within =
    let back : lane - 1 + 1 ≡ lane = omega arith in
    let ended = (h.each (lane - 1) (omega arith)).ended in
    subst (λ n. (work_of (after l journal) n).ended ≡ true) back ended

pub FollowsTurns-all : (l : LoadedFiles) (schedule : List ℕ) (journal : List Entry) (lanes : List LaneOf) (rounds : ℕ) → length lanes ≡ length l.script.lanes
    → FollowsSoFar l journal lanes (schedule ++ rounds_of l rounds) → AreOver l journal lanes (length lanes) → FollowsTurns l schedule journal (map places_in lanes)
FollowsTurns-all l schedule journal lanes rounds count so_far over = record {
  rounds = rounds;
  used = map used_len lanes;
  walk = so_far.walk (map places_in lanes) (may_end l lanes);
  over = λ lane some within. over_at l journal lanes over lane some (rw count within);
}
