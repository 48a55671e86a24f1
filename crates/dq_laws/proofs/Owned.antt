-- A flight that runs is an own one of its lane, and a lane that has ended has nothing left.
use Rattle.std.proofs.Common.{◌≡◌, ◌≢◌, inl, inr, ℕ, zero, suc, ◌+◌, ◌-◌, ◌<◌, ◌≤◌, Bool, true, false, ◌&&◌, eqb, List, [], ◌∷◌, ◌++◌, length, drop, get_or, slice_set, length-set, replicate, refl, ap, sym, ◌∙◌, arith}
use Rattle.std.proofs.lemmas.Bool.{eqb-true}
use Rattle.std.proofs.lemmas.Bool.Decides.{eqb_tells}
use Rattle.std.proofs.lemmas.List.{get_or-set_other, get_or-set_same}
use Rattle.std.specs.Prelude.{◌⊎◌, Option, Some, None, nat_eq, nat_lt, not, if◌then◌else◌}
use Rattle.std.specs.Cmp.Lexicographic.{pointwise}
use Rattle.dq_base.specs.Batches.{Group}
use Rattle.dq_base.specs.Scripts.{step_of}
use Rattle.dq_extract.specs.Loads.{LoadedFiles}
use Rattle.dq_flight.specs.Flights.{replaced}
use Rattle.dq_journal.specs.Journals.{lane_of}
use Rattle.dq_journal.specs.declared.entry.Met.{Met}
use Rattle.dq_journal.specs.declared.entry.Entry.{Entry}
use Rattle.dq_journal.specs.declared.entry.Entry.TheVariants.{Publish, Admit, Lease, Give, Lose, Land, Fall, Take, End}
use Rattle.dq_machine.proofs.Reached.{allowed_above, allowed_may, allowed_within, and_first, and_second, reached_keeps}
use Rattle.dq_machine.specs.Admitting.{admission_of, group_flights, is_batch, joined_by, met_eq, numbers_from, runs, with_joiner}
use Rattle.dq_machine.specs.Landing.{ended, over, has_run, may_land_at, may_fall}
use Rattle.dq_machine.specs.Machine.{IsReached, allowed, may_admit, may_begin, next, work_admitted}
use Rattle.dq_machine.specs.State.{Course, Running, Landed, Fallen, Flown, Joined, Publication, State, Work, flight_at, is_first, is_free, is_numbered, no_work, none_left, start, work_of}
use Rattle.dq_machine.specs.Taking.{flights_taken, is_first_join, let_go, may_take, own_flight, takes_as, takes_course, without_joiner, work_taken}
use Rattle.dq_laws.proofs.Each.{Each, each-append, each-either, each-replaced, each-weaker}
use Rattle.dq_laws.proofs.Numbered.{Ascend, ascend-append, ascend-ended, ascend-groups, ascend-joined, ascend-let_go, ascend-own}

abbrev pub Among : ℕ → List ℕ → Type 0
Among n [] = ⊥
Among n (m ∷ ms) = (m ≡ n) ⊎ Among n ms

-- the lane is there, and the flight of that number is among its own ones
pub record Owns (works : List Work) (lane number : ℕ) : Type 0 where
  pub above : 0 < lane
  pub within : lane ≤ length works
  pub among : Among number (get_or works (lane - 1) no_work).own

abbrev pub IsHeld : List Work → Flown → Type 0
IsHeld works f = runs f.course ≡ true → Owns works f.lane f.number

-- once it has ended, nothing is left
pub record IsDone (w : Work) : Type 0 where
  pub own : w.ended ≡ true → w.own ≡ []
  pub joins : w.ended ≡ true → w.joins ≡ []

pub record IsOwned (works : List Work) (started : ℕ) (flown : List Flown) : Type 0 where
  pub numbers : Ascend 0 started flown
  pub held : Each (IsHeld works) flown
  pub done : (i : ℕ) → IsDone (get_or works i no_work)

-- at first

none_done : (n i : ℕ) → IsDone (get_or (replicate n no_work) i no_work)
none_done zero zero = record { own = λ e. refl; joins = λ e. refl }
none_done zero (suc i) = record { own = λ e. refl; joins = λ e. refl }
none_done (suc n) zero = record { own = λ e. refl; joins = λ e. refl }
none_done (suc n) (suc i) = none_done n i

IsOwned-start : (l : LoadedFiles) → IsOwned (start l).works (start l).flights.started (start l).flights.flown
IsOwned-start l = record { numbers = omega arith; held = tt; done = none_done (length l.script.lanes) }

-- tests

pub none_empty : {X : Type 0} (xs : List X) → none_left xs ≡ true → xs ≡ []
none_empty [] h = refl
none_empty (x ∷ xs) h = cc

pub none_among : (own : List ℕ) (n : ℕ) → own ≡ [] → Among n own → ⊥
none_among [] n e a = a
none_among (m ∷ own) n e a = cc

no_join : (joins : List Joined) (flight : ℕ) → is_first_join joins flight ≡ true → joins ≡ [] → ⊥
no_join [] flight first e = cc
no_join (j ∷ joins) flight first e = cc

not_both : (b : Bool) → not b ≡ true → b ≡ true → ⊥
not_both true n e = cc
not_both false n e = cc

free_unended : (w : Work) → is_free w ≡ true → not w.ended ≡ true
free_unended w h = and_first (not w.ended) (none_left w.own) (and_first (not w.ended && none_left w.own) (none_left w.joins) h)

pub free_own : (w : Work) → is_free w ≡ true → w.own ≡ []
free_own w h = none_empty w.own (and_second (not w.ended) (none_left w.own) (and_first (not w.ended && none_left w.own) (none_left w.joins) h))

pub free_joins : (w : Work) → is_free w ≡ true → w.joins ≡ []
free_joins w h = none_empty w.joins (and_second (not w.ended && none_left w.own) (none_left w.joins) h)

-- a lane's work changes

one_done : (works : List Work) (i j : ℕ) (w : Work) → i < length works → IsDone w → IsDone (get_or works j no_work)
    → ((eqb i j ≡ true) × (i ≡ j)) ⊎ ((eqb i j ≡ false) × (i ≢ j)) → IsDone (get_or (slice_set works i w) j no_work)
one_done works i j w lt here there (inl (told, same)) = rw (← same, get_or-set_same works i w no_work lt) here
one_done works i j w lt here there (inr (told, apart)) = let ne : j ≢ i = λ e. apart (sym e) in rw (get_or-set_other works i j w no_work ne) there

one_among : (works : List Work) (i j n : ℕ) (w : Work) → i < length works → (Among n (get_or works i no_work).own → Among n w.own)
    → Among n (get_or works j no_work).own → ((eqb i j ≡ true) × (i ≡ j)) ⊎ ((eqb i j ≡ false) × (i ≢ j)) → Among n (get_or (slice_set works i w) j no_work).own
one_among works i j n w lt keeps has (inl (told, same)) = rw (← same, get_or-set_same works i w no_work lt) (keeps (rw same has))
one_among works i j n w lt keeps has (inr (told, apart)) = let ne : j ≢ i = λ e. apart (sym e) in rw (get_or-set_other works i j w no_work ne) has

module _ (works : List Work) (i : ℕ) (w : Work) (lt : i < length works) where
  owns_step : (lane n : ℕ) → (Among n (get_or works i no_work).own → Among n w.own) → Owns works lane n → Owns (slice_set works i w) lane n
  owns_step lane n keeps o = record {
    above = o.above;
    within = omega (arith, o.within, length-set works i w);
    among = one_among works i (lane - 1) n w lt keeps o.among (eqb_tells i (lane - 1));
  }

  held_step : ((n : ℕ) → Among n (get_or works i no_work).own → Among n w.own) → (f : Flown) → IsHeld works f → IsHeld (slice_set works i w) f
  held_step keeps f h = λ r. owns_step f.lane f.number (keeps f.number) (h r)

  done_step : IsDone w → ((j : ℕ) → IsDone (get_or works j no_work)) → (j : ℕ) → IsDone (get_or (slice_set works i w) j no_work)
  done_step here all = λ j. one_done works i j w lt here (all j) (eqb_tells i j)

  -- it is as it was but for what doesn't matter here
  owned_kept : (started : ℕ) (flown : List Flown) → ((n : ℕ) → Among n (get_or works i no_work).own → Among n w.own) → IsDone w
      → IsOwned works started flown → IsOwned (slice_set works i w) started flown
  owned_kept started flown keeps done h = record {
    numbers = h.numbers;
    held = each-weaker (IsHeld works) (IsHeld (slice_set works i w)) (held_step keeps) flown h.held;
    done = done_step done h.done;
  }

  -- the lane has an own flight
  owns_here : (lane n : ℕ) → 0 < lane → lane - 1 ≡ i → Among n w.own → Owns (slice_set works i w) lane n
  owns_here lane n above place a = record {
    above = above;
    within = omega (arith, lt, length-set works i w);
    among = rw (place, get_or-set_same works i w no_work lt) a;
  }

-- an admission

groups_held : (works : List Work) (versions : List Publication) (lane number : ℕ) (gs : List Group) → ((n : ℕ) → Among n (numbers_from number gs) → Owns works lane n)
    → Each (IsHeld works) (group_flights versions lane number gs)
groups_held works versions lane number [] owns = tt
groups_held works versions lane number (g ∷ gs) owns =
    (λ r. owns number (inl refl), groups_held works versions lane (number + 1) gs (λ n a. owns n (inr a)))

joined_held : (works : List Work) (flown : List Flown) (joins : List Joined) → Each (IsHeld works) flown → Each (IsHeld works) (joined_by flown joins)
joined_held works flown [] h = h
joined_held works flown (j ∷ joins) h =
    joined_held works (replaced (is_numbered j.flight) with_joiner flown) joins
    (each-replaced (IsHeld works) (IsHeld works) (is_numbered j.flight) with_joiner (λ f h. h) (λ f h. (h, tt)) flown h)

pub admit_free : (l : LoadedFiles) (s : State) (w : Work) (lane number : ℕ) (met : List Met) → may_admit l s w lane number met ≡ true → is_free w ≡ true
admit_free l s w lane number met h =
    and_first (is_free w) (nat_lt w.last number) (and_first (may_begin w number) (is_batch (step_of l.script.lanes lane number))
    (and_first (may_begin w number && is_batch (step_of l.script.lanes lane number)) (pointwise met_eq (admission_of l s lane number).met met) h))

admit_owned : (l : LoadedFiles) (s : State) (lane number : ℕ) (met : List Met) → IsOwned s.works s.flights.started s.flights.flown → 0 < lane → lane - 1 < length s.works
    → is_free (work_of s lane) ≡ true
    → IsOwned (next l s (Admit lane number met)).works (next l s (Admit lane number met)).flights.started (next l s (Admit lane number met)).flights.flown
admit_owned l s lane number met h above lt free =
    let a = admission_of l s lane number in
    let w : Work = work_admitted s (work_of s lane) number a in
    let works : List Work = slice_set s.works (lane - 1) w in
    let unended = free_unended (work_of s lane) free in
    record {
      numbers = ascend-append 0 s.flights.started _ (joined_by s.flights.flown a.joins) _ (ascend-joined 0 s.flights.started s.flights.flown a.joins h.numbers)
          (ascend-groups s.versions lane s.flights.started a.groups);
      held = each-append (IsHeld works) (joined_by s.flights.flown a.joins) _
          (joined_held works s.flights.flown a.joins (each-weaker (IsHeld s.works) (IsHeld works)
          (held_step s.works (lane - 1) w lt (λ n has. absurd (none_among (work_of s lane).own n (free_own (work_of s lane) free) has))) s.flights.flown h.held))
          (groups_held works s.versions lane (s.flights.started + 1) a.groups (λ n has. owns_here s.works (lane - 1) w lt lane n above refl has));
      done = done_step s.works (lane - 1) w lt (record {
        own = λ e. absurd (not_both (work_of s lane).ended unended e);
        joins = λ e. absurd (not_both (work_of s lane).ended unended e);
      }) h.done;
    }

-- the end of a flight

module _ (P Q : Flown → Type 0) (flight : ℕ) (others : (f : Flown) → f.number ≢ flight → P f → Q f) where
  behind_held : (low high : ℕ) (flown : List Flown) → flight ≤ low → Ascend low high flown → Each P flown → Each Q flown
  behind_held low high [] le ascend h = tt
  behind_held low high (f ∷ flown) le ascend h =
      let ne : f.number ≢ flight = λ e. absurd (omega (arith, ascend.0, e)) in
      let more : flight ≤ f.number = omega (arith, ascend.0) in
      (others f ne h.0, behind_held f.number high flown more ascend.1 h.1)

  module _ (g : Flown → List Flown) (gone : (f : Flown) → Each Q (g f)) where
    one_gone : (high : ℕ) (f : Flown) (flown rest : List Flown) → Ascend f.number high flown → P f → Each P flown → Each Q rest
        → ((eqb f.number flight ≡ true) × (f.number ≡ flight)) ⊎ ((eqb f.number flight ≡ false) × (f.number ≢ flight))
        → Each Q (if is_numbered flight f then g f ++ flown else f ∷ rest)
    one_gone high f flown rest ascend here all more (inl (told, same)) =
        rw told (each-append Q (g f) flown (gone f) (behind_held f.number high flown (omega (arith, same)) ascend all))
    one_gone high f flown rest ascend here all more (inr (told, apart)) = rw told (others f apart here, more)

    gone_held : (low high : ℕ) (flown : List Flown) → Ascend low high flown → Each P flown → Each Q (replaced (is_numbered flight) g flown)
    gone_held low high [] ascend h = tt
    gone_held low high (f ∷ flown) ascend h =
        one_gone high f flown (replaced (is_numbered flight) g flown) ascend.1 h.0 h.1 (gone_held f.number high flown ascend.1 h.1) (eqb_tells f.number flight)

over_held : (works : List Work) (course : Course) (f : Flown) → runs course ≡ false → Each (IsHeld works) (over course f)
over_held works course f still =
    each-either (IsHeld works) (nat_eq f.joiners 0) [] (record f { course = course } ∷ []) tt
    (λ r. let no : ⊥ = cc in absurd no, tt)

-- but for the first one, the lane's own flights stay
others_among : (own : List ℕ) (flight n : ℕ) → is_first own flight ≡ true → n ≢ flight → Among n own → Among n (drop 1 own)
others_among [] flight n first ne a = absurd a
others_among (m ∷ own) flight n first ne (inl e) = absurd (ne (sym e ∙ eqb-true m flight first))
others_among (m ∷ own) flight n first ne (inr a) = a

end_owned : (works : List Work) (started : ℕ) (flown : List Flown) (i flight : ℕ) (w : Work) (course : Course) → IsOwned works started flown → i < length works
    → is_first (get_or works i no_work).own flight ≡ true → runs course ≡ false → w.own ≡ drop 1 (get_or works i no_work).own → IsDone w
    → IsOwned (slice_set works i w) started (ended course flight flown)
end_owned works started flown i flight w course h lt first still own done =
    let after : List Work = slice_set works i w in
    record {
      numbers = ascend-ended 0 started course flight flown h.numbers;
      held = gone_held (IsHeld works) (IsHeld after) flight
          (λ f ne here r. owns_step works i w lt f.lane f.number (λ a. rw own (others_among (get_or works i no_work).own flight f.number first ne a)) (here r))
          (over course) (λ f. over_held after course f still) 0 started flown h.numbers h.held;
      done = done_step works i w lt done h.done;
    }

-- takes

next_number : (started number : ℕ) (course : Course) → takes_course started course (Some number) ≡ true → number ≡ started + 1
next_number started number Running takes = cc
next_number started number Landed takes = cc
next_number started number Fallen takes = eqb-true number (started + 1) takes

pub next_of : (started number : ℕ) (o : Option Flown) → takes_as started o (Some number) ≡ true → number ≡ started + 1
next_of started number None takes = cc
next_of started number (Some f) takes = next_number started number f.course takes

less_held : (works : List Work) (f : Flown) → IsHeld works f → Each (IsHeld works) (without_joiner f)
less_held works f h = each-either (IsHeld works) (nat_eq (f.joiners - 1) 0) [] (record f { joiners = f.joiners - 1 } ∷ []) tt (h, tt)

let_go_held : (works : List Work) (flight : ℕ) (flown : List Flown) → Each (IsHeld works) flown → Each (IsHeld works) (let_go flight flown)
let_go_held works flight flown h = each-replaced (IsHeld works) (IsHeld works) (is_numbered flight) without_joiner (λ f h. h) (less_held works) flown h

own_held : (works : List Work) (number lane : ℕ) (joins : List Joined) → Owns works lane number → Each (IsHeld works) (own_flight number lane joins)
own_held works number lane [] owns = tt
own_held works number lane (j ∷ joins) owns = (λ r. owns, tt)

take_owned : (s : State) (lane flight : ℕ) (next : Option ℕ) → IsOwned s.works s.flights.started s.flights.flown → 0 < lane → lane - 1 < length s.works
    → may_take s (work_of s lane) flight next ≡ true
    → IsOwned (slice_set s.works (lane - 1) (work_taken (work_of s lane) next)) (flights_taken s.flights lane flight (work_of s lane).joins next).started
    (flights_taken s.flights lane flight (work_of s lane).joins next).flown
take_owned s lane flight None h above lt may =
    let v : Work = work_of s lane in
    let w : Work = work_taken v None in
    record {
      numbers = ascend-let_go 0 s.flights.started flight s.flights.flown h.numbers;
      held = let_go_held (slice_set s.works (lane - 1) w) flight s.flights.flown
          (each-weaker (IsHeld s.works) (IsHeld (slice_set s.works (lane - 1) w)) (held_step s.works (lane - 1) w lt (λ n a. a)) s.flights.flown h.held);
      done = done_step s.works (lane - 1) w lt (record {
        own = (h.done (lane - 1)).own;
        joins = λ e. ap (λ js. drop 1 js) ((h.done (lane - 1)).joins e);
      }) h.done;
    }
take_owned s lane flight (Some number) h above lt may =
    let v : Work = work_of s lane in
    let w : Work = work_taken v (Some number) in
    let works : List Work = slice_set s.works (lane - 1) w in
    let both = and_first (none_left v.own && is_first_join v.joins flight) (takes_as s.flights.started (flight_at s flight) (Some number)) may in
    let none = none_empty v.own (and_first (none_left v.own) (is_first_join v.joins flight) both) in
    let first = and_second (none_left v.own) (is_first_join v.joins flight) both in
    let is = next_of s.flights.started number (flight_at s flight) (and_second (none_left v.own && is_first_join v.joins flight) (takes_as s.flights.started (flight_at s flight) (Some number)) may) in
    record {
      numbers = ascend-append 0 s.flights.started number (let_go flight s.flights.flown) (own_flight number lane v.joins)
          (ascend-let_go 0 s.flights.started flight s.flights.flown h.numbers) (ascend-own number lane s.flights.started v.joins is);
      held = each-append (IsHeld works) (let_go flight s.flights.flown) (own_flight number lane v.joins)
          (let_go_held works flight s.flights.flown (each-weaker (IsHeld s.works) (IsHeld works)
          (held_step s.works (lane - 1) w lt (λ n a. absurd (none_among v.own n none a))) s.flights.flown h.held))
          (own_held works number lane v.joins (owns_here s.works (lane - 1) w lt lane number above refl (inl refl)));
      done = done_step s.works (lane - 1) w lt (record {
        own = λ e. absurd (no_join v.joins flight first ((h.done (lane - 1)).joins e));
        joins = λ e. absurd (no_join v.joins flight first ((h.done (lane - 1)).joins e));
      }) h.done;
    }

-- each entry

there : (l : LoadedFiles) (s : State) (e : Entry) → allowed l s e ≡ true → lane_of e - 1 < length s.works
there l s e a = omega (arith, allowed_above l s e a, allowed_within l s e a)

same_done : (w v : Work) → v.ended ≡ w.ended → v.own ≡ w.own → v.joins ≡ w.joins → IsDone w → IsDone v
same_done w v ended own joins d = record { own = λ e. own ∙ d.own (sym ended ∙ e); joins = λ e. joins ∙ d.joins (sym ended ∙ e) }

ended_done : (w v : Work) → v.ended ≡ w.ended → v.own ≡ drop 1 w.own → v.joins ≡ w.joins → IsDone w → IsDone v
ended_done w v ended own joins d =
    record { own = λ e. own ∙ ap (λ ns. drop 1 ns) (d.own (sym ended ∙ e)); joins = λ e. joins ∙ d.joins (sym ended ∙ e) }

IsOwned-next : (l : LoadedFiles) (s : State) (e : Entry) → IsOwned s.works s.flights.started s.flights.flown → allowed l s e ≡ true
    → IsOwned (next l s e).works (next l s e).flights.started (next l s e).flights.flown
IsOwned-next l s (Publish lane number) h a =
    owned_kept s.works (lane - 1) _ (there l s (Publish lane number) a) _ _ (λ n has. has) (same_done (work_of s lane) _ refl refl refl (h.done (lane - 1))) h
IsOwned-next l s (Admit lane number met) h a =
    let e : Entry = Admit lane number met in
    admit_owned l s lane number met h (allowed_above l s e a) (there l s e a) (admit_free l s (work_of s lane) lane number met (allowed_may l s e a))
IsOwned-next l s (Lease lane flight link fresh) h a =
    owned_kept s.works (lane - 1) _ (there l s (Lease lane flight link fresh) a) _ _ (λ n has. has) (same_done (work_of s lane) _ refl refl refl (h.done (lane - 1))) h
IsOwned-next l s (Give lane flight link ran runs calls) h a =
    owned_kept s.works (lane - 1) _ (there l s (Give lane flight link ran runs calls) a) _ _ (λ n has. has) (same_done (work_of s lane) _ refl refl refl (h.done (lane - 1))) h
IsOwned-next l s (Lose lane flight link dialled ran runs calls) h a =
    owned_kept s.works (lane - 1) _ (there l s (Lose lane flight link dialled ran runs calls) a) _ _ (λ n has. has) (same_done (work_of s lane) _ refl refl refl (h.done (lane - 1))) h
IsOwned-next l s (Land lane flight cells clever literal) h a =
    let e : Entry = Land lane flight cells clever literal in
    let w : Work = work_of s lane in
    let first = and_first (is_first w.own flight) (has_run w.phase) (and_first (is_first w.own flight && has_run w.phase) (may_land_at l s.versions (flight_at s flight) cells clever literal) (allowed_may l s e a)) in
    end_owned s.works s.flights.started s.flights.flown (lane - 1) flight _ Landed h (there l s e a) first refl refl (ended_done w _ refl refl refl (h.done (lane - 1)))
IsOwned-next l s (Fall lane flight cause) h a =
    let e : Entry = Fall lane flight cause in
    let w : Work = work_of s lane in
    let first = and_first (is_first w.own flight) (may_fall w.phase cause) (allowed_may l s e a) in
    end_owned s.works s.flights.started s.flights.flown (lane - 1) flight _ Fallen h (there l s e a) first refl refl (ended_done w _ refl refl refl (h.done (lane - 1)))
IsOwned-next l s (Take lane flight next) h a =
    let e : Entry = Take lane flight next in
    take_owned s lane flight next h (allowed_above l s e a) (there l s e a) (allowed_may l s e a)
IsOwned-next l s (End lane) h a =
    let e : Entry = End lane in
    let w : Work = work_of s lane in
    let free = allowed_may l s e a in
    owned_kept s.works (lane - 1) _ (there l s e a) _ _ (λ n has. has) (record { own = λ e. free_own w free; joins = λ e. free_joins w free }) h

pub IsOwned-reached : (l : LoadedFiles) (s : State) → IsReached l s → IsOwned s.works s.flights.started s.flights.flown
IsOwned-reached l s r =
    reached_keeps l (λ s. IsOwned s.works s.flights.started s.flights.flown) (λ s e h a. IsOwned-next l s e h a) s (IsOwned-start l) r
