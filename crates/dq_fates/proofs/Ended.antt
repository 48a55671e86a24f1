-- What becomes of a flight at its end, and that it is over then.
use Rattle.std.proofs.Common.{◌≡◌, ◌≢◌, inl, inr, ℕ, ◌+◌, ◌-◌, ◌<◌, ◌≤◌, Bool, true, false, ◌&&◌, eqb, List, [], ◌∷◌, ◌++◌, drop, get_or, refl, sym, ◌∙◌, arith}
use Rattle.std.proofs.lemmas.Bool.{eq-eqb, eqb-true}
use Rattle.std.proofs.lemmas.Bool.Decides.{eqb_tells, nat_tests}
use Rattle.std.proofs.lemmas.List.Folds.{list_any-append}
use Rattle.std.specs.List.{list_any}
use Rattle.std.specs.Prelude.{◌⊎◌, Some, nat_eq}
use Rattle.dq_base.specs.declared.kept.Kept.{Kept}
use Rattle.dq_extract.specs.Loads.{LoadedFiles}
use Rattle.dq_journal.specs.Journals.{lane_of}
use Rattle.dq_journal.specs.declared.entry.Cause.{Cause}
use Rattle.dq_journal.specs.declared.entry.Cause.TheVariants as cause
use Rattle.dq_journal.specs.declared.entry.Entry.{Entry}
use Rattle.dq_journal.specs.declared.entry.Entry.TheVariants.{Publish, Admit, Lease, Give, Lose, Land, Fall, Take, End}
use Rattle.dq_laws.specs.Settled.{IsOver}
use Rattle.dq_laws.proofs.Losing.{IsLosing, IsLosing-after, OwnLost, first_among}
use Rattle.dq_laws.proofs.Over.{fate_stays as fate_by_stays, or_none}
use Rattle.dq_laws.proofs.Owned.{Among}
use Rattle.dq_laws.proofs.Owners.{any_among}
use Rattle.dq_laws.proofs.Pushed.{IsPushed, pushed}
use Rattle.dq_machine.proofs.Reached.{allowed_may, and_first, and_second}
use Rattle.dq_machine.specs.Landing.{has_run, may_fall, may_land_at}
use Rattle.dq_machine.specs.Machine.{after, legal, next, work_by}
use Rattle.dq_machine.specs.Owning.{Answered, Failed, Wanting, falls_wanting, fate, fate_by, losses_of}
use Rattle.dq_machine.specs.State.{Phase, New, Leased, Given, State, Work, flight_at, is_first, no_work, work_of}
use Rattle.dq_fates.specs.Ends.{EndsAsTold, EndsOver, GaveFew, fate_fallen}
use Rattle.dq_fates.proofs.Bringing.{fell_kept, losses_kept, more_keeps, own_comes, set_keeps, started_grows, there}
use Rattle.dq_fates.proofs.Fell.{dropped_above, none_fell}
use Rattle.dq_fates.proofs.Gave.{gave_few}

-- fates by numbers

fate_answered : (losses : ℕ) (b : Bool) → losses ≤ 1 → b ≡ false → fate_by losses b ≡ Answered
fate_answered losses b few is = let told : nat_eq losses 2 ≡ false = grind (arith, nat_tests) in rw (told, is) refl

fate_failed : (losses : ℕ) (b : Bool) → losses ≡ 2 → fate_by losses b ≡ Failed
fate_failed losses b is = rw is refl

fate_wanting : (losses : ℕ) (b : Bool) → losses ≤ 1 → b ≡ true → fate_by losses b ≡ Wanting
fate_wanting losses b few is = let told : nat_eq losses 2 ≡ false = grind (arith, nat_tests) in rw (told, is) refl

-- losses by phases

landed_few : (journal : List Entry) (p : Phase) (own : List ℕ) (flight : ℕ) → is_first own flight ≡ true → has_run p ≡ true → GaveFew journal p own → losses_of journal flight ≤ 1
landed_few journal (New losses) own flight first run h = let no : ⊥ = cc in absurd no
landed_few journal (Leased losses fresh k) own flight first run h = let no : ⊥ = cc in absurd no
landed_few journal (Given ran) [] flight first run h = absurd h
landed_few journal (Given ran) (f ∷ own) flight first run h = rw (← eqb-true f flight first) h

fallen_two : (m : ℕ → ℕ) (p : Phase) (own : List ℕ) (flight : ℕ) → is_first own flight ≡ true → may_fall p cause.BackEnd ≡ true → OwnLost m p own → m flight ≡ 2
fallen_two m (New losses) [] flight first may h = let no : ⊥ = cc in absurd no
fallen_two m (New losses) (f ∷ own) flight first may h = rw (← eqb-true f flight first) (h.0.0 ∙ eqb-true losses 2 may)
fallen_two m (Leased losses fresh k) own flight first may h = let no : ⊥ = cc in absurd no
fallen_two m (Given ran) own flight first may h = let no : ⊥ = cc in absurd no

fallen_few : (journal : List Entry) (p : Phase) (own : List ℕ) (flight : ℕ) → is_first own flight ≡ true → may_fall p cause.Memory ≡ true
    → OwnLost (losses_of journal) p own → GaveFew journal p own → losses_of journal flight ≤ 1
fallen_few journal (New losses) own flight first may h g = let no : ⊥ = cc in absurd no
fallen_few journal (Leased losses fresh k) [] flight first may h g = let no : ⊥ = cc in absurd no
fallen_few journal (Leased losses fresh k) (f ∷ own) flight first may h g =
    let few : losses_of journal f ≤ 1 = omega (arith, h.0.0, h.0.1) in rw (← eqb-true f flight first) few
fallen_few journal (Given ran) [] flight first may h g = absurd g
fallen_few journal (Given ran) (f ∷ own) flight first may h g = rw (← eqb-true f flight first) g

-- fates

module _ (l : LoadedFiles) (journal : List Entry) (lane flight : ℕ) where
  -- a flight that is its lane's first one hasn't fallen
  pub first_unfallen : legal l journal ≡ true → is_first (work_of (after l journal) lane).own flight ≡ true → list_any (falls_wanting flight) journal ≡ false
  first_unfallen lawful first = (none_fell l journal lawful).own (lane - 1) flight (first_among (work_of (after l journal) lane).own flight first)

  fallen_first : (c : Cause) → IsPushed l journal (Fall lane flight c) → is_first (work_of (after l journal) lane).own flight ≡ true
  fallen_first c p =
      let w : Work = work_of (after l journal) lane in
      and_first (is_first w.own flight) (may_fall w.phase c) (allowed_may l (after l journal) (Fall lane flight c) p.allowed)

  fallen_may : (c : Cause) → IsPushed l journal (Fall lane flight c) → may_fall (work_of (after l journal) lane).phase c ≡ true
  fallen_may c p =
      let w : Work = work_of (after l journal) lane in
      and_second (is_first w.own flight) (may_fall w.phase c) (allowed_may l (after l journal) (Fall lane flight c) p.allowed)

  landed_both : (cells : ℕ) (clever literal : Kept) → IsPushed l journal (Land lane flight cells clever literal)
      → (is_first (work_of (after l journal) lane).own flight && has_run (work_of (after l journal) lane).phase) ≡ true
  landed_both cells clever literal p =
      let s = after l journal in
      let w : Work = work_of s lane in
      and_first (is_first w.own flight && has_run w.phase) (may_land_at l s.versions (flight_at s flight) cells clever literal)
      (allowed_may l s (Land lane flight cells clever literal) p.allowed)

  pub land_fate : (cells : ℕ) (clever literal : Kept) → legal l (journal ++ Land lane flight cells clever literal ∷ []) ≡ true
      → fate (journal ++ Land lane flight cells clever literal ∷ []) (Some flight) ≡ Answered
  land_fate cells clever literal lawful =
      let e : Entry = Land lane flight cells clever literal in
      let p = pushed l journal e lawful in
      let w : Work = work_of (after l journal) lane in
      let both = landed_both cells clever literal p in
      let first = and_first (is_first w.own flight) (has_run w.phase) both in
      let few = landed_few journal w.phase w.own flight first (and_second (is_first w.own flight) (has_run w.phase) both) (gave_few l journal p.legal (lane - 1)) in
      fate_answered (losses_of (journal ++ e ∷ []) flight) (list_any (falls_wanting flight) (journal ++ e ∷ [])) (rw (losses_kept journal e flight refl) few)
      (fell_kept journal e flight refl (first_unfallen p.legal first))

  pub backend_fate : legal l (journal ++ Fall lane flight cause.BackEnd ∷ []) ≡ true → fate (journal ++ Fall lane flight cause.BackEnd ∷ []) (Some flight) ≡ Failed
  backend_fate lawful =
      let e : Entry = Fall lane flight cause.BackEnd in
      let p = pushed l journal e lawful in
      let w : Work = work_of (after l journal) lane in
      let lost = ((IsLosing-after l journal p.legal).each (lane - 1)).own in
      let two = fallen_two (losses_of journal) w.phase w.own flight (fallen_first cause.BackEnd p) (fallen_may cause.BackEnd p) lost in
      fate_failed (losses_of (journal ++ e ∷ []) flight) (list_any (falls_wanting flight) (journal ++ e ∷ [])) (losses_kept journal e flight refl ∙ two)

  falls_now : list_any (falls_wanting flight) journal ≡ false → list_any (falls_wanting flight) (journal ++ Fall lane flight cause.Memory ∷ []) ≡ true
  falls_now old = list_any-append (falls_wanting flight) journal (Fall lane flight cause.Memory ∷ []) ∙ rw (old, eq-eqb flight flight refl) refl

  pub memory_fate : legal l (journal ++ Fall lane flight cause.Memory ∷ []) ≡ true → fate (journal ++ Fall lane flight cause.Memory ∷ []) (Some flight) ≡ Wanting
  memory_fate lawful =
      let e : Entry = Fall lane flight cause.Memory in
      let p = pushed l journal e lawful in
      let w : Work = work_of (after l journal) lane in
      let first = fallen_first cause.Memory p in
      let lost = ((IsLosing-after l journal p.legal).each (lane - 1)).own in
      let few = fallen_few journal w.phase w.own flight first (fallen_may cause.Memory p) lost (gave_few l journal p.legal (lane - 1)) in
      fate_wanting (losses_of (journal ++ e ∷ []) flight) (list_any (falls_wanting flight) (journal ++ e ∷ [])) (rw (losses_kept journal e flight refl) few)
      (falls_now (first_unfallen p.legal first))

  pub fall_fate : (c : Cause) → legal l (journal ++ Fall lane flight c ∷ []) ≡ true → fate (journal ++ Fall lane flight c ∷ []) (Some flight) ≡ fate_fallen c
  fall_fate cause.BackEnd lawful = backend_fate lawful
  fall_fate cause.Memory lawful = memory_fate lawful

-- over

pub any_none : (own : List ℕ) (n : ℕ) → (Among n own → ⊥) → list_any (nat_eq n) own ≡ false
any_none [] n never = refl
any_none (m ∷ own) n never = or_none (nat_eq n m) (list_any (nat_eq n) own) (by (eqb_tells n m)) (any_none own n (λ a. never (inr a)))
  where
    by : ((eqb n m ≡ true) × (n ≡ m)) ⊎ ((eqb n m ≡ false) × (n ≢ m)) → nat_eq n m ≡ false
    by (inl (told, same)) = absurd (never (inl (sym same)))
    by (inr (told, apart)) = told

pub none_any : (own : List ℕ) (n : ℕ) → list_any (nat_eq n) own ≡ false → Among n own → ⊥
none_any own n none a = let yes = any_among own n a in let no : ⊥ = cc in no

over_by : (l : LoadedFiles) (past : List Entry) (e : Entry) (flight : ℕ) → IsPushed l past e → flight ≤ (next l (after l past) e).flights.started
    → (Among flight (work_by l (after l past) (work_of (after l past) (lane_of e)) e).own → ⊥)
    → ((j : ℕ) → lane_of e - 1 ≢ j → Among flight (get_or (after l past).works j no_work).own → ⊥) → IsOver (after l (past ++ e ∷ [])) flight
over_by l past e flight p le here others =
    let s = after l past in
    let over : IsOver (next l s e) flight = record {
      started = le;
      left = λ lane. any_none (work_of (next l s e) lane).own flight
          (set_keeps (λ j v. Among flight v.own → ⊥) s.works (lane_of e - 1) (work_by l s (work_of s (lane_of e)) e) (there l s e p.allowed) here others (lane - 1));
    } in
    rw p.after over

left_at : (s : State) (flight j : ℕ) → IsOver s flight → Among flight (get_or s.works j no_work).own → ⊥
left_at s flight j o a =
    let place : j + 1 - 1 ≡ j = omega arith in
    let b : Among flight (work_of s (j + 1)).own = rw place a in none_any (work_of s (j + 1)).own flight (o.left (j + 1)) b

module _ (l : LoadedFiles) (flight : ℕ) where
  gone_now : (past : List Entry) (e : Entry) → IsPushed l past e → IsOver (after l past) flight
      → Among flight (work_of (after l past) (lane_of e)).own ⊎ (((after l past).flights.started < flight) × (flight ≤ (next l (after l past) e).flights.started)) → ⊥
  gone_now past e p o (inl a) = none_any (work_of (after l past) (lane_of e)).own flight (o.left (lane_of e)) a
  gone_now past e p o (inr new) = absurd (omega (arith, o.started, new.0))

  over_next : (past : List Entry) (e : Entry) → IsPushed l past e → IsOver (after l past) flight → IsOver (after l (past ++ e ∷ [])) flight
  over_next past e p o =
      over_by l past e flight p (omega (arith, o.started, started_grows l (after l past) e p.allowed))
      (λ a. gone_now past e p o (own_comes l (after l past) e flight p.allowed a)) (λ j ne a. left_at (after l past) flight j o a)

  pub over_stays : (journal more : List Entry) → IsOver (after l journal) flight → legal l (journal ++ more) ≡ true → IsOver (after l (journal ++ more)) flight
  over_stays journal more o lawful = more_keeps l (λ past. IsOver (after l past) flight) over_next journal more lawful o

  pub fate_stays : (journal more : List Entry) → IsOver (after l journal) flight → legal l (journal ++ more) ≡ true → fate (journal ++ more) (Some flight) ≡ fate journal (Some flight)
  fate_stays journal more o lawful = fate_by_stays l journal more flight lawful o

-- a flight that ends leaves its lane's work
module _ (l : LoadedFiles) (journal : List Entry) (e : Entry) (flight : ℕ) (p : IsPushed l journal e)
    (first : is_first (work_of (after l journal) (lane_of e)).own flight ≡ true)
    (dropped : (work_by l (after l journal) (work_of (after l journal) (lane_of e)) e).own ≡ drop 1 (work_of (after l journal) (lane_of e)).own)
    (started : (next l (after l journal) e).flights.started ≡ (after l journal).flights.started) where
  losing : IsLosing (losses_of journal) (after l journal).works (after l journal).flights.started
  losing = IsLosing-after l journal p.legal

  over_dropped : IsOver (after l (journal ++ e ∷ [])) flight
  over_dropped =
      let own = (work_of (after l journal) (lane_of e)).own in
      let mine = first_among own flight first in
      let begun = losing.others.begun (lane_of e - 1) flight mine in
      over_by l journal e flight p (omega (arith, begun, started))
      (λ a. let lt = dropped_above own flight flight first (losing.each (lane_of e - 1)).rises (rw dropped at a) in absurd (omega (arith, lt)))
      (λ j ne a. losing.others.apart (lane_of e - 1) j flight ne mine a)

module _ (l : LoadedFiles) (journal : List Entry) (lane flight : ℕ) where
  pub over_landed : (cells : ℕ) (clever literal : Kept) → legal l (journal ++ Land lane flight cells clever literal ∷ []) ≡ true
      → IsOver (after l (journal ++ Land lane flight cells clever literal ∷ [])) flight
  over_landed cells clever literal lawful =
      let p = pushed l journal (Land lane flight cells clever literal) lawful in
      let w : Work = work_of (after l journal) lane in
      over_dropped l journal (Land lane flight cells clever literal) flight p
      (and_first (is_first w.own flight) (has_run w.phase) (landed_both l journal lane flight cells clever literal p)) refl refl

  pub over_fallen : (c : Cause) → legal l (journal ++ Fall lane flight c ∷ []) ≡ true → IsOver (after l (journal ++ Fall lane flight c ∷ [])) flight
  over_fallen c lawful =
      let p = pushed l journal (Fall lane flight c) lawful in
      over_dropped l journal (Fall lane flight c) flight p (fallen_first l journal lane flight c p) refl refl

-- whichever way it ends

pub ends_as_told : (l : LoadedFiles) (journal : List Entry) (e : Entry) → legal l (journal ++ e ∷ []) ≡ true → EndsAsTold (journal ++ e ∷ []) e
ends_as_told l journal (Publish lane number) lawful = tt
ends_as_told l journal (Admit lane number met) lawful = tt
ends_as_told l journal (Lease lane f link fresh) lawful = tt
ends_as_told l journal (Give lane f link ran runs calls) lawful = tt
ends_as_told l journal (Lose lane f link dialled ran runs calls) lawful = tt
ends_as_told l journal (Land lane f cells clever literal) lawful = land_fate l journal lane f cells clever literal lawful
ends_as_told l journal (Fall lane f c) lawful = fall_fate l journal lane f c lawful
ends_as_told l journal (Take lane f next) lawful = tt
ends_as_told l journal (End lane) lawful = tt

pub ends_over : (l : LoadedFiles) (journal : List Entry) (e : Entry) → legal l (journal ++ e ∷ []) ≡ true → EndsOver (after l (journal ++ e ∷ [])) e
ends_over l journal (Publish lane number) lawful = tt
ends_over l journal (Admit lane number met) lawful = tt
ends_over l journal (Lease lane f link fresh) lawful = tt
ends_over l journal (Give lane f link ran runs calls) lawful = tt
ends_over l journal (Lose lane f link dialled ran runs calls) lawful = tt
ends_over l journal (Land lane f cells clever literal) lawful = over_landed l journal lane f cells clever literal lawful
ends_over l journal (Fall lane f c) lawful = over_fallen l journal lane f c lawful
ends_over l journal (Take lane f next) lawful = tt
ends_over l journal (End lane) lawful = tt
