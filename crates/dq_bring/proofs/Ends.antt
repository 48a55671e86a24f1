-- A flight lands or falls.
use Rattle.std.proofs.Common.{◌≡◌, ◌≢◌, ℕ, ◌≤◌, Bool, true, false, cond, eqb, List, [], ◌∷◌, ◌++◌, find, refl, ap, sym, ◌∙◌, arith}
use Rattle.std.proofs.lemmas.Bool.{eq-eqb, eqb-true}
use Rattle.std.proofs.lemmas.Bool.Decides.{nat_tests}
use Rattle.std.specs.Arc.{arc_value}
use Rattle.std.specs.Prelude.{Option, Some, None, nat_eq, if◌then◌else◌}
use Rattle.dq_base.specs.declared.kept.Kept.{Kept}
use Rattle.dq_extract.specs.Loads.{LoadedFiles}
use Rattle.dq_fates.proofs.Ended.{backend_fate, land_fate, memory_fate, over_fallen, over_landed}
use Rattle.dq_journal.specs.declared.entry.Cause.{Cause}
use Rattle.dq_journal.specs.declared.entry.Cause.TheVariants as cause
use Rattle.dq_journal.specs.declared.entry.Entry.{Entry}
use Rattle.dq_journal.specs.declared.entry.Entry.TheVariants.{Fall, Land}
use Rattle.dq_laws.proofs.Each.{Each, each-either}
use Rattle.dq_laws.proofs.Goes.{legal_reached}
use Rattle.dq_machine.proofs.LostFew.{LostFew-reached}
use Rattle.dq_machine.specs.Landing.{ended, has_run, may_fall, over}
use Rattle.dq_machine.specs.Losses.{LostFew}
use Rattle.dq_machine.specs.Machine.{after, allowed, legal}
use Rattle.dq_machine.specs.State.{Course as Way, Fallen, Flown, Landed, Phase as Course, New, Leased, Given, Publication, State, Work, flight_at, is_numbered, work_of}
use Rattle.dq_desk.proofs.Pushed.{legal-push}
use Rattle.dq_desk.specs.Events.{IsAnswer, IsBody, may_land_now}
use Rattle.dq_trial.specs.Links.{LinkTells}
use Rattle.dq_bring.specs.Flights.{IsBringing, KeyAt, standing_at}
use Rattle.dq_bring.specs.Phases.{IsFalling, IsLanding, IsNew, IsReady, IsUndialled, Standing, is_untold}
use Rattle.dq_bring.specs.Told.{Ends, IsEnding}
use Rattle.dq_bring.specs.declared.phase.Answer.{Answer}
use Rattle.dq_bring.specs.declared.phase.Phase.{Phase}
use Rattle.dq_bring.specs.declared.phase.Phase.TheVariants as phase
use Rattle.dq_bring.specs.declared.telling.Ending.{Ending}
use Rattle.dq_bring.specs.declared.telling.Ending.TheVariants as ending
use Rattle.dq_bring.proofs.Pushed.{Ends-push}
use Rattle.dq_bring.proofs.Standings.{flight_may}

-- the other flights stay

other_number : (m n : ℕ) → m ≢ n → eqb m n ≡ false
other_number m n ne = grind (arith, nat_tests)

behind : (n : ℕ) (xs ys : List Flown) → Each (λ (f : Flown). f.number ≢ n) xs → find (is_numbered n) (xs ++ ys) ≡ find (is_numbered n) ys
behind n [] ys h = refl
behind n (f ∷ xs) ys h = rw (other_number f.number n h.0) (behind n xs ys h.1)

module _ (way : Way) (n m : ℕ) (ne : n ≢ m) where
  over_same : (f : Flown) → f.number ≡ m → Each (λ (x : Flown). x.number ≢ n) (over way f)
  over_same f is = each-either (λ (x : Flown). x.number ≢ n) (nat_eq f.joiners 0) [] (record f { course = way } ∷ []) tt ((λ e. ne (sym e ∙ is)), tt)

  one_other : (b : Bool) (f : Flown) (flown rest : List Flown) → is_numbered m f ≡ b → find (is_numbered n) rest ≡ find (is_numbered n) flown
      → find (is_numbered n) (if b then over way f ++ flown else f ∷ rest) ≡ find (is_numbered n) (f ∷ flown)
  one_other true f flown rest told more =
      let is = eqb-true f.number m told in
      let apart : f.number ≢ n = λ as_n. ne (sym as_n ∙ is) in
      behind n (over way f) flown (over_same f is) ∙ rw (other_number f.number n apart) refl
  one_other false f flown rest told more = ap (λ (o : Option Flown). cond (eqb f.number n) (Some f) o) more

  others_stay : (flown : List Flown) → find (is_numbered n) (ended way m flown) ≡ find (is_numbered n) flown
  others_stay [] = refl
  others_stay (f ∷ flown) = one_other (is_numbered m f) f flown (ended way m flown) refl (others_stay flown)

-- what the desk asks

answer_so : (versions : List Publication) (at : Standing) (a : Answer) (o : Option Flown) → KeyAt o at.key at.stamp → versions ≡ at.versions → IsReady at a
    → IsAnswer versions o (arc_value a.table) × IsBody o a.body
answer_so versions at a None key same h = absurd key
answer_so versions at a (Some f) key same h = (rw (key.0, key.1, same) h.table, rw key.0 h.body)

module _ {L : Type 0} (tells : LinkTells L) (l : LoadedFiles) (lane flight losses : ℕ) (old : List Entry) where
  abbrev s : State
  s = after l old

  abbrev w : Work
  w = work_of s lane

  -- a fall

  module _ (p : Phase L) (h : IsBringing tells l lane flight losses old p) (c : Cause) (row : may_fall w.phase c ≡ true) where
    pub fall_allowed : allowed l s (Fall lane flight c) ≡ true
    fall_allowed = flight_may tells l lane flight losses old p h (may_fall w.phase c) row

    fall_legal : legal l (old ++ Fall lane flight c ∷ []) ≡ true
    fall_legal = legal-push l old (Fall lane flight c) h.legal fall_allowed

    fall_ends : (new : List Entry) (e : Ending) → false ≡ is_untold p → new ≡ old ++ Fall lane flight c ∷ [] → IsEnding l old new flight e → Ends l lane flight (is_untold p) old new e
    fall_ends new e told grew ended =
        Ends-push tells l (Fall lane flight c) flight losses old new p h fall_legal grew e (eq-eqb flight flight refl) told refl refl
        (record { joins = refl; last = refl; ended = refl }) (λ n ne. others_stay Fallen n flight ne s.flights.flown) refl
        (rw grew (over_fallen l old lane flight c fall_legal)) ended

  -- after two losses
  fail_by : (at : Standing) (c : Course) → at.losses ≡ losses → LostFew c → IsNew tells at c → 2 ≤ losses → may_fall c cause.BackEnd ≡ true
  fail_by at (New n) same few is many = eq-eqb n 2 (omega (arith, same, few, is, many))
  fail_by at (Leased n fresh k) same few is many = absurd is
  fail_by at (Given ran) same few is many = absurd is

  module _ (h : IsBringing tells l lane flight losses old phase.New) (many : 2 ≤ losses) where
    fail_row : may_fall w.phase cause.BackEnd ≡ true
    fail_row = fail_by (standing_at l s lane h.key h.stamp losses) w.phase refl (LostFew-reached l s lane (legal_reached l old h.legal)) h.phase many

    pub fail_may : allowed l s (Fall lane flight cause.BackEnd) ≡ true
    fail_may = fall_allowed phase.New h cause.BackEnd fail_row

    pub failed : (new : List Entry) → new ≡ old ++ Fall lane flight cause.BackEnd ∷ [] → Ends l lane flight false old new ending.BackEnd
    failed new grew =
        fall_ends phase.New h cause.BackEnd fail_row new ending.BackEnd refl grew (rw grew (backend_fate l old lane flight (fall_legal phase.New h cause.BackEnd fail_row)))

  -- where memory was wanting for the dial
  undialled_by : (at : Standing) (c : Course) → IsUndialled tells at c → may_fall c cause.Memory ≡ true
  undialled_by at (New n) is = absurd is
  undialled_by at (Leased n fresh k) is = is.1
  undialled_by at (Given ran) is = absurd is

  module _ (h : IsBringing tells l lane flight losses old phase.Undialled) where
    undialled_row : may_fall w.phase cause.Memory ≡ true
    undialled_row = undialled_by (standing_at l s lane h.key h.stamp losses) w.phase h.phase

    pub undialled_may : allowed l s (Fall lane flight cause.Memory) ≡ true
    undialled_may = fall_allowed phase.Undialled h cause.Memory undialled_row

    pub undialled_fell : (new : List Entry) → new ≡ old ++ Fall lane flight cause.Memory ∷ [] → Ends l lane flight false old new ending.Memory
    undialled_fell new grew =
        fall_ends phase.Undialled h cause.Memory undialled_row new ending.Memory refl grew
        (rw grew (memory_fate l old lane flight (fall_legal phase.Undialled h cause.Memory undialled_row)))

  -- where it was wanting after the link was given back
  given_by : (at : Standing) (c : Course) → IsFalling tells at c → may_fall c cause.Memory ≡ true
  given_by at (New n) is = absurd is
  given_by at (Leased n fresh k) is = absurd is
  given_by at (Given ran) is = refl

  module _ (h : IsBringing tells l lane flight losses old phase.Falling) where
    given_row : may_fall w.phase cause.Memory ≡ true
    given_row = given_by (standing_at l s lane h.key h.stamp losses) w.phase h.phase

    pub given_may : allowed l s (Fall lane flight cause.Memory) ≡ true
    given_may = fall_allowed phase.Falling h cause.Memory given_row

    pub given_fell : (new : List Entry) → new ≡ old ++ Fall lane flight cause.Memory ∷ [] → Ends l lane flight false old new ending.Memory
    given_fell new grew =
        fall_ends phase.Falling h cause.Memory given_row new ending.Memory refl grew
        (rw grew (memory_fate l old lane flight (fall_legal phase.Falling h cause.Memory given_row)))

  -- a landing

  landing_by : (at : Standing) (a : Answer) (c : Course) → IsLanding tells at c a → (has_run c ≡ true) × IsReady at a
  landing_by at a (New n) is = absurd is
  landing_by at a (Leased n fresh k) is = absurd is
  landing_by at a (Given ran) is = is

  module _ (a : Answer) (h : IsBringing tells l lane flight losses old (phase.Landing a)) where
    -- what the desk asks, and what comes of it
    pub record Lands : Type 0 where
      pub may : may_land_now s lane flight ≡ true
      pub answer : IsAnswer s.versions (flight_at s flight) (arc_value a.table)
      pub body : IsBody (flight_at s flight) a.body
      pub ends : (new : List Entry) (cells : ℕ) (clever literal : Kept) → legal l new ≡ true → new ≡ old ++ Land lane flight cells clever literal ∷ []
          → Ends l lane flight false old new (ending.Landed a.further)

    pub lands_so : Lands
    lands_so =
        let at : Standing = standing_at l s lane h.key h.stamp losses in
        let both = landing_by at a w.phase h.phase in
        let asked = answer_so s.versions at a (flight_at s flight) h.asked refl both.1 in
        record {
          may = flight_may tells l lane flight losses old (phase.Landing a) h (has_run w.phase) both.0;
          answer = asked.0;
          body = asked.1;
          ends = λ new cells clever literal lawful grew.
              let e : Entry = Land lane flight cells clever literal in
              let legal_so : legal l (old ++ e ∷ []) ≡ true = rw grew at lawful in
              Ends-push tells l e flight losses old new (phase.Landing a) h legal_so grew (ending.Landed a.further) (eq-eqb flight flight refl) refl refl refl
              (record { joins = refl; last = refl; ended = refl }) (λ n ne. others_stay Landed n flight ne s.flights.flown) refl
              (rw grew (over_landed l old lane flight cells clever literal legal_so))
              (rw grew (land_fate l old lane flight cells clever literal legal_so), rw both.1.further asked.0);
        }
