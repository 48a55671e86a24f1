-- A lane that has an entry didn't pass.
use Rattle.std.proofs.Common.{◌≡◌, ℕ, Bool, true, false, ◌&&◌, List, [], ◌∷◌, refl, ap, sym, ◌∙◌}
use Rattle.std.proofs.lemmas.Bool.{eqb-true}
use Rattle.std.specs.Prelude.{Option, Some, None, not}
use Rattle.dq_extract.specs.Loads.{LoadedFiles}
use Rattle.dq_journal.specs.Journals.{lane_of}
use Rattle.dq_journal.specs.Steps.{is_end, step_in}
use Rattle.dq_journal.specs.declared.entry.Entry.{Entry}
use Rattle.dq_journal.specs.declared.entry.Entry.TheVariants.{Publish, Admit, Lease, Give, Lose, Land, Fall, Take, End}
use Rattle.dq_machine.proofs.Reached.{allowed_may, and_first, and_second}
use Rattle.dq_machine.specs.Admitting.{admission_of, is_batch, met_eq, runs}
use Rattle.dq_machine.specs.Landing.{has_run, may_fall, may_land_at}
use Rattle.dq_machine.specs.Leasing.{is_next, may_give, may_lease, may_lose}
use Rattle.dq_machine.specs.Machine.{allowed, may, may_begin}
use Rattle.dq_machine.specs.Publishing.{is_publish}
use Rattle.dq_machine.specs.State.{Course, Running, Landed, Fallen, Flown, Joined, State, Work, flight_at, is_first, is_free, none_left, work_of}
use Rattle.dq_machine.specs.Taking.{is_first_join, may_take, takes_as, takes_course, waits, waits_at, waits_for}
use Rattle.std.specs.Cmp.Lexicographic.{pointwise}
use Rattle.dq_base.specs.Scripts.{step_of}

-- tests

pub and_false : (b : Bool) → (b && false) ≡ false
and_false true = refl
and_false false = refl

pub first_false : (a b : Bool) → a ≡ false → (a && b) ≡ false
first_false true b h = cc
first_false false b h = refl

pub second_false : (a b : Bool) → b ≡ false → (a && b) ≡ false
second_false true b h = h
second_false false b h = refl

-- nothing of the lane is open, and so it doesn't wait

none_waits : (s : State) (joins : List Joined) → none_left joins ≡ true → waits_at s joins ≡ false
none_waits s [] h = refl
none_waits s (j ∷ joins) h = cc

pub free_goes : (s : State) (w : Work) → is_free w ≡ true → waits s w ≡ false
free_goes s w free = second_false (none_left w.own) (waits_at s w.joins) (none_waits s w.joins (and_second (not w.ended && none_left w.own) (none_left w.joins) free))

-- it has a flight to bring

own_some : (own : List ℕ) (flight : ℕ) → is_first own flight ≡ true → none_left own ≡ false
own_some [] flight first = cc
own_some (f ∷ own) flight first = refl

-- or a result to take

take_ready : (started : ℕ) (o : Option Flown) (next : Option ℕ) → takes_as started o next ≡ true → waits_for o ≡ false
take_ready started None next may = refl
take_ready started (Some f) next may = course_ready f.course next may
  where
    course_ready : (c : Course) (n : Option ℕ) → takes_course started c n ≡ true → runs c ≡ false
    course_ready Running n may = cc
    course_ready Landed n may = refl
    course_ready Fallen n may = refl

joins_ready : (s : State) (joins : List Joined) (flight : ℕ) (next : Option ℕ) → is_first_join joins flight ≡ true → takes_as s.flights.started (flight_at s flight) next ≡ true
    → (waits_at s joins ≡ false) × (none_left joins ≡ false)
joins_ready s [] flight next first may = cc
joins_ready s (j ∷ joins) flight next first may = (ap (λ n. waits_for (flight_at s n)) (eqb-true j.flight flight first) ∙ take_ready s.flights.started (flight_at s flight) next may, refl)

-- the lane has this to do: a step or its end, a flight to bring, or one to take

pub record Goes (s : State) (w : Work) (steps : List ℕ) (ends : Bool) : Type 0 where
  pub goes : waits s w ≡ false
  pub opens : steps ≡ [] → ends ≡ false → is_free w ≡ false

begins : (s : State) (w : Work) (steps : List ℕ) (ends : Bool) (number : ℕ) → steps ≡ number ∷ [] → is_free w ≡ true → Goes s w steps ends
begins s w steps ends number is free = record { goes = free_goes s w free; opens = λ none e. let bad : number ∷ [] ≡ [] = sym is ∙ none in cc }

brings : (s : State) (w : Work) (flight : ℕ) → is_first w.own flight ≡ true → Goes s w [] false
brings s w flight first =
    let some = own_some w.own flight first in
    record {
      goes = first_false (none_left w.own) (waits_at s w.joins) some;
      opens = λ none e. first_false (not w.ended && none_left w.own) (none_left w.joins) (second_false (not w.ended) (none_left w.own) some);
    }

takes : (s : State) (w : Work) (flight : ℕ) (next : Option ℕ) → may_take s w flight next ≡ true → Goes s w [] false
takes s w flight next may =
    let both = and_first (none_left w.own && is_first_join w.joins flight) (takes_as s.flights.started (flight_at s flight) next) may in
    let ready = joins_ready s w.joins flight next (and_second (none_left w.own) (is_first_join w.joins flight) both)
    (and_second (none_left w.own && is_first_join w.joins flight) (takes_as s.flights.started (flight_at s flight) next) may) in
    record {
      goes = second_false (none_left w.own) (waits_at s w.joins) ready.0;
      opens = λ none e. second_false (not w.ended && none_left w.own) (none_left w.joins) ready.1;
    }

came : (l : LoadedFiles) (s : State) (w : Work) (e : Entry) → may l s w e ≡ true → Goes s w (step_in e) (is_end e)
came l s w (Publish lane number) m =
    begins s w (number ∷ []) false number refl
    (and_first (is_free w) _ (and_first (may_begin w number) (is_publish (step_of l.script.lanes lane number)) m))
came l s w (Admit lane number met) m =
    begins s w (number ∷ []) false number refl
    (and_first (is_free w) _ (and_first (may_begin w number) (is_batch (step_of l.script.lanes lane number))
    (and_first (may_begin w number && is_batch (step_of l.script.lanes lane number)) (pointwise met_eq (admission_of l s lane number).met met) m)))
came l s w (Lease lane flight link fresh) m =
    brings s w flight (and_first (is_first w.own flight) (may_lease w.phase) (and_first (is_first w.own flight && may_lease w.phase) (is_next s.links.idle s.links.fresh link fresh) m))
came l s w (Give lane flight link ran runs calls) m =
    brings s w flight (and_first (is_first w.own flight) (may_give w.phase (flight_at s flight) link ran runs calls) m)
came l s w (Lose lane flight link dialled ran runs calls) m =
    brings s w flight (and_first (is_first w.own flight) (may_lose w.phase (flight_at s flight) link dialled ran runs calls) m)
came l s w (Land lane flight cells clever literal) m =
    brings s w flight (and_first (is_first w.own flight) (has_run w.phase) (and_first (is_first w.own flight && has_run w.phase) (may_land_at l s.versions (flight_at s flight) cells clever literal) m))
came l s w (Fall lane flight cause) m =
    brings s w flight (and_first (is_first w.own flight) (may_fall w.phase cause) m)
came l s w (Take lane flight next) m = takes s w flight next m
came l s w (End lane) m = record { goes = free_goes s w m; opens = λ none e. cc }

pub goes_by : (l : LoadedFiles) (s : State) (e : Entry) → allowed l s e ≡ true → Goes s (work_of s (lane_of e)) (step_in e) (is_end e)
goes_by l s e a = came l s (work_of s (lane_of e)) e (allowed_may l s e a)
