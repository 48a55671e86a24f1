-- What a desk keeps when a lane looks at the flight for which its first join waits.
use Rattle.std.proofs.Common.{◌≡◌, ℕ, zero, suc, ◌+◌, ◌-◌, ◌^◌, ◌<◌, ◌≤◌, Bool, true, false, ◌&&◌, cond, List, [], ◌∷◌, ◌++◌, drop, find, get_or, length, length-set, map, slice_set, refl, ap, sym, ◌∙◌, arith}
use Rattle.std.proofs.lemmas.Bool.{eq-eqb}
use Rattle.std.proofs.lemmas.Bool.Decides.{nat_tests}
use Rattle.std.proofs.lemmas.List.{map-append}
use Rattle.std.proofs.lemmas.List.Sums.{sum_by-cons}
use Rattle.std.proofs.lemmas.Option.{IfSome_then}
use Rattle.std.specs.Arc.{arc_value}
use Rattle.std.specs.List.{AllByRecursion, list_all}
use Rattle.std.specs.Prelude.{IfSome, IsSomeAnd, Option, Some, None, nat_eq, nat_lt}
use Rattle.std.specs.declared.alloc.Global.{Global}
use Rattle.std.specs.declared.sync.Arc.{Arc}
use Rattle.dq_base.specs.Answers.{answer}
use Rattle.dq_base.specs.declared.cell.Cell.{Cell}
use Rattle.dq_base.specs.declared.query.Query.{Query}
use Rattle.dq_extract.specs.Loads.{LoadedFiles}
use Rattle.dq_flight.specs.Flights.{Course as Told, FlightOf, FlightsOf, flight_of, is_numbered, replaced, runs, taken}
use Rattle.dq_flight.specs.Flights as flights
use Rattle.dq_flight.specs.Looks.{LooksAt}
use Rattle.dq_flight.specs.declared.look.Look.TheVariants as look
use Rattle.dq_journal.specs.declared.entry.Entry.{Entry}
use Rattle.dq_journal.specs.declared.entry.Entry.TheVariants.{Take}
use Rattle.dq_laws.proofs.Each.{Each}
use Rattle.dq_laws.proofs.Joiners.{IsCounted-reached, all_waiting, joiners_of, waiting}
use Rattle.dq_laws.proofs.Numbered.{ascend-let_go, ascend-numbers}
use Rattle.dq_laws.proofs.Ordered.{few}
use Rattle.dq_laws.proofs.Owed.{owed_next}
use Rattle.dq_laws.proofs.Owned.{IsOwned-reached}
use Rattle.dq_laws.proofs.Stamped.{IsStamped-reached}
use Rattle.dq_machine.proofs.Reached.{and_both, and_first, and_second}
use Rattle.dq_machine.specs.Machine.{after, allowed, next}
use Rattle.dq_machine.specs.Publishing.{rows_at}
use Rattle.dq_machine.specs.State.{Course, Running, Landed, Fallen, Flown, Joined, State, Work, flight_at, no_work, none_left, work_of}
use Rattle.dq_machine.specs.State as state
use Rattle.dq_machine.specs.Taking.{is_first_join, let_go, own_flight, takes_as, takes_course, work_taken}
use Rattle.dq_text.specs.Sizes.{IsSizedQuery}
use Rattle.dq_desk.specs.Events.{LooksAs, is_there, looks, may_look_now}
use Rattle.dq_desk.specs.Kept.{Inner, IsDesk, IsFlight, course_of, flown_of}
use Rattle.dq_trial.specs.Links.{LinkTells}
use Rattle.dq_desk.specs.Waits.{IsFirst}
use Rattle.dq_desk.specs.declared.taking.Taken.TheVariants as told
use Rattle.dq_desk.proofs.Courses.{all-append, each-taken, flown-taken, is-kept, replaced-same, taken-running}
use Rattle.dq_desk.proofs.Kept.{joins-set, room-less}
use Rattle.dq_desk.proofs.Pushed.{IsDesk-push, desk-reached, wrecks-same}

-- joins

abbrev joins_in : List Work → List (List Joined)
joins_in works = map (λ (w : Work). w.joins) works

pub joins-at : (works : List Work) (i : ℕ) → get_or (joins_in works) i [] ≡ (get_or works i no_work).joins
joins-at [] zero = refl
joins-at [] (suc i) = refl
joins-at (w ∷ works) zero = refl
joins-at (w ∷ works) (suc i) = joins-at works i

all_within : (n : ℕ) (works : List Work) (i : ℕ) → waiting n (get_or works i no_work).joins ≤ all_waiting n works
all_within n [] zero = omega arith
all_within n [] (suc i) = omega arith
all_within n (w ∷ works) zero = omega (arith, sum_by-cons (λ (v : Work). waiting n v.joins) w works)
all_within n (w ∷ works) (suc i) = omega (arith, sum_by-cons (λ (v : Work). waiting n v.joins) w works, all_within n works i)

some_waiting : (flight : ℕ) (joins : List Joined) → is_first_join joins flight ≡ true → 0 < waiting flight joins
some_waiting flight [] first = let no : ⊥ = cc in absurd no
some_waiting flight (j ∷ joins) first =
    let one : waiting flight (j ∷ joins) ≡ 1 + waiting flight joins = rw first refl in omega (arith, one)

found_step : (b : Bool) (f : Flown) (more : ℕ) (o : Option Flown) → 0 < cond b f.joiners more → (0 < more → IsSomeAnd o (λ g. 0 < g.joiners))
    → IsSomeAnd (cond b (Some f) o) (λ g. 0 < g.joiners)
found_step true f more o some others = some
found_step false f more o some others = others some

joiners_found : (n : ℕ) (flown : List Flown) → 0 < joiners_of n flown → IsSomeAnd (find (state.is_numbered n) flown) (λ f. 0 < f.joiners)
joiners_found n [] some = absurd (omega arith)
joiners_found n (f ∷ flown) some = found_step (nat_eq f.number n) f (joiners_of n flown) (find (state.is_numbered n) flown) some (joiners_found n flown)

-- courses

told_running : (course : Told) (key : Query) → LooksAt course key look.Running → course ≡ flights.Running
told_running flights.Running key is = refl
told_running (flights.Landed rows) key is = absurd is
told_running flights.Fallen key is = absurd is

told_fallen : (course : Told) (key : Query) → LooksAt course key look.Fallen → course ≡ flights.Fallen
told_fallen flights.Running key is = absurd is
told_fallen (flights.Landed rows) key is = absurd is
told_fallen flights.Fallen key is = refl

-- owners of a key and its table
abbrev pub Share : Type 0
Share = Option (Arc Query Global × Arc (List (List Cell)) Global)

-- the course of a landed flight, and what is told of it
pub record HasLanded (course : Told) (key : Query) (share : Share) : Type 0 where
  pub rows : List (List Cell)
  pub is : course ≡ flights.Landed rows
  pub told : IfSome share (λ both. (arc_value both.0 ≡ key) × (arc_value both.1 ≡ rows))

told_landed : (course : Told) (key : Query) (share : Share) → LooksAt course key (look.Landed share) → HasLanded course key share
told_landed flights.Running key share is = absurd is
told_landed (flights.Landed rows) key share is = record { rows = rows; is = refl; told = is }
told_landed flights.Fallen key share is = absurd is

-- numbers

numbers_below : (started number : ℕ) (kept : List FlightOf) → started < number → Each (λ (f : Flown). (0 < f.number) × (f.number ≤ started)) (map flown_of kept)
    → list_all (λ f. nat_lt f.number number) kept ≡ true
numbers_below started number [] above h = refl
numbers_below started number (f ∷ kept) above h =
    let lt : f.number < number = omega (arith, h.0.1, above) in
    let first : nat_lt f.number number ≡ true = grind (arith, nat_tests) in
    and_both (nat_lt f.number number) (list_all (λ f. nat_lt f.number number) kept) first (numbers_below started number kept above h.1)

module _ {L : Type 0} (tells : LinkTells L) (l : LoadedFiles) (journal : List Entry) (p : Inner L) (h : IsDesk tells l journal p) where
  abbrev pub s : State
  s = after l journal

  -- the lane's first join, and its flight, for which somebody waits
  pub record Waits (lane flight : ℕ) : Type 0 where
    pub there : is_there s lane ≡ true
    pub looks : looks (work_of s lane) flight ≡ true
    pub join : Joined
    pub others : List Joined
    pub joins : (work_of s lane).joins ≡ join ∷ others
    pub held : FlightOf
    pub found : flight_of flight p.flights.flights ≡ Some held
    pub flown : flight_at s flight ≡ Some (flown_of held)
    pub is : IsFlight s.versions held
    pub some : 0 < held.joiners

  waits_by : (lane flight : ℕ) (joins : List Joined) (o : Option Flown) → may_look_now s lane flight ≡ true → (work_of s lane).joins ≡ joins → is_first_join joins flight ≡ true
      → flight_at s flight ≡ o → IsSomeAnd o (λ f. 0 < f.joiners) → Waits lane flight
  waits_by lane flight [] o may joins first found some = let no : ⊥ = cc in absurd no
  waits_by lane flight (j ∷ others) None may joins first found some = absurd some
  waits_by lane flight (j ∷ others) (Some f) may joins first found some =
      let k = is-kept s.versions s.flights p.flights p.started flight f h.agrees.flights found in
      record {
        there = and_first (is_there s lane) (looks (work_of s lane) flight) may;
        looks = and_second (is_there s lane) (looks (work_of s lane) flight) may;
        join = j;
        others = others;
        joins = joins;
        held = k.held;
        found = k.found;
        flown = found ∙ ap Some (sym k.flown);
        is = k.is;
        some = omega (arith, some, ap (λ (g : Flown). g.joiners) k.flown);
      }

  pub waits-at : (lane flight : ℕ) → may_look_now s lane flight ≡ true → Waits lane flight
  waits-at lane flight may =
      let w = work_of s lane in
      let looks_at = and_second (is_there s lane) (looks w flight) may in
      let first = and_second (none_left w.own) (is_first_join w.joins flight) looks_at in
      let counted = (IsCounted-reached l s (desk-reached tells l journal p h)).each flight in
      let some : 0 < joiners_of flight s.flights.flown = omega (arith, some_waiting flight w.joins first, all_within flight s.works (lane - 1), counted) in
      waits_by lane flight w.joins (flight_at s flight) may refl first refl (joiners_found flight s.flights.flown some)

  -- where it may be looked at, it is waited for
  pub some-joiners : (lane flight : ℕ) → Waits lane flight → IsSomeAnd (flight_of flight p.flights.flights) (λ f. 0 < f.joiners)
  some-joiners lane flight q = rw q.found q.some

  -- what is told is its course

  pub is-running : (lane flight : ℕ) (q : Waits lane flight) → IsSomeAnd (flight_of flight p.flights.flights) (λ f. LooksAt f.course f.key look.Running)
      → q.held.course ≡ flights.Running
  is-running lane flight q is = told_running q.held.course q.held.key (rw q.found at is)

  pub is-fallen : (lane flight : ℕ) (q : Waits lane flight) → IsSomeAnd (flight_of flight p.flights.flights) (λ f. LooksAt f.course f.key look.Fallen)
      → q.held.course ≡ flights.Fallen
  is-fallen lane flight q is = told_fallen q.held.course q.held.key (rw q.found at is)

  pub has-landed : (lane flight : ℕ) (q : Waits lane flight) (share : Share) → IsSomeAnd (flight_of flight p.flights.flights) (λ f. LooksAt f.course f.key (look.Landed share))
      → HasLanded q.held.course q.held.key share
  has-landed lane flight q share is = told_landed q.held.course q.held.key share (rw q.found at is)

  -- the lane's joins
  pub joins-are : (lane flight : ℕ) (q : Waits lane flight) → get_or p.joins (lane - 1) [] ≡ q.join ∷ q.others
  joins-are lane flight q = ap (λ (all : List (List Joined)). get_or all (lane - 1) []) h.agrees.joins ∙ joins-at s.works (lane - 1) ∙ q.joins

  pub first-join : (lane flight : ℕ) (q : Waits lane flight) (first : Joined) → IsFirst (get_or p.joins (lane - 1) []) (Some first) → first ≡ q.join
  first-join lane flight q first is = rw (joins-are lane flight q) at is

  joins_after : (lane flight : ℕ) (q : Waits lane flight) (w : Work) (joins : List (List Joined)) → w.joins ≡ drop 1 (work_of s lane).joins
      → joins ≡ slice_set p.joins (lane - 1) (drop 1 (get_or p.joins (lane - 1) [])) → joins ≡ joins_in (slice_set s.works (lane - 1) w)
  joins_after lane flight q w joins same is =
      is ∙ ap (λ (js : List Joined). slice_set p.joins (lane - 1) (drop 1 js)) (joins-are lane flight q ∙ sym q.joins)
      ∙ ap (λ (all : List (List Joined)). slice_set all (lane - 1) (drop 1 (work_of s lane).joins)) h.agrees.joins
      ∙ ap (λ (js : List Joined). slice_set (joins_in s.works) (lane - 1) js) (sym same) ∙ sym (joins-set s.works (lane - 1) w)

  -- which entries may come

  take_allowed : (lane flight : ℕ) (q : Waits lane flight) (number : Option ℕ) → takes_course s.flights.started (course_of q.held.course) number ≡ true
      → allowed l s (Take lane flight number) ≡ true
  take_allowed lane flight q number takes =
      and_both (is_there s lane) (looks (work_of s lane) flight && takes_as s.flights.started (flight_at s flight) number) q.there
      (and_both (looks (work_of s lane) flight) (takes_as s.flights.started (flight_at s flight) number) q.looks (rw q.flown takes))

  landed_allowed : (lane flight : ℕ) (q : Waits lane flight) (rows : List (List Cell)) → q.held.course ≡ flights.Landed rows → allowed l s (Take lane flight None) ≡ true
  landed_allowed lane flight q rows is = take_allowed lane flight q None (rw is refl)

  fallen_allowed : (lane flight number : ℕ) (q : Waits lane flight) → q.held.course ≡ flights.Fallen → number ≡ p.started + 1 → allowed l s (Take lane flight (Some number)) ≡ true
  fallen_allowed lane flight number q is follows =
      take_allowed lane flight q (Some number) (rw is (eq-eqb number (s.flights.started + 1) (omega (arith, follows, h.agrees.flights.started))))

  -- the flight is under way: all is as it was

  pub IsDesk-look : (lane flight : ℕ) (q : Waits lane flight) (kept : FlightsOf) → q.held.course ≡ flights.Running
      → kept.flights ≡ replaced (is_numbered flight) taken p.flights.flights → p.flights.spare ≤ kept.spare → IsDesk tells l journal (record p { flights = kept })
  IsDesk-look lane flight q kept is looked room =
      let a = h.agrees in
      let still : (f : FlightOf) → flight_of flight p.flights.flights ≡ Some f → taken f ≡ f ∷ [] =
      λ f found. let both : Some q.held ≡ Some f = sym q.found ∙ found in
      let this : q.held ≡ f = cc in
      taken-running f (ap (λ (g : FlightOf). runs g.course) (sym this) ∙ ap runs is) in
      let same : kept.flights ≡ p.flights.flights = looked ∙ replaced-same (is_numbered flight) taken p.flights.flights still in
      record {
        loaded = h.loaded;
        legal = h.legal;
        agrees = record {
          versions = a.versions;
          shelves = a.shelves;
          flights = record { flown = ap (map flown_of) same ∙ a.flights.flown; started = a.flights.started; each = rw same a.flights.each };
          joins = a.joins;
          idle = a.idle;
          fresh = a.fresh;
          room = record { owed = a.room.owed; entries = a.room.entries; flights = omega (arith, a.room.flights, room); wrecks = a.room.wrecks; idle = a.room.idle };
        };
        wrecks = h.wrecks;
      }

  pub looks-running : (lane flight : ℕ) (q : Waits lane flight) → q.held.course ≡ flights.Running → LooksAs s (flight_at s flight) told.Running
  looks-running lane flight q is = rw q.flown (ap course_of is)

  -- it has ended: one waits for it less

  still_at : (lane flight : ℕ) (q : Waits lane flight) → runs q.held.course ≡ false → (f : FlightOf) → flight_of flight p.flights.flights ≡ Some f → runs f.course ≡ false
  still_at lane flight q still f found =
      let both : Some q.held ≡ Some f = sym q.found ∙ found in
      let this : q.held ≡ f = cc in ap (λ (g : FlightOf). runs g.course) (sym this) ∙ still

  let_go_are : (lane flight : ℕ) (q : Waits lane flight) (kept : FlightsOf) → runs q.held.course ≡ false → kept.flights ≡ replaced (is_numbered flight) taken p.flights.flights
      → (map flown_of kept.flights ≡ let_go flight s.flights.flown) × AllByRecursion (IsFlight s.versions) kept.flights
  let_go_are lane flight q kept still looked = (
    ap (map flown_of) looked ∙ flown-taken flight p.flights.flights (still_at lane flight q still) ∙ ap (let_go flight) h.agrees.flights.flown,
    rw looked (each-taken s.versions flight p.flights.flights h.agrees.flights.each),
  )

  pub IsDesk-landed : (lane flight spare : ℕ) (q : Waits lane flight) (rows : List (List Cell)) (kept : FlightsOf) (joins : List (List Joined)) (journal' : List Entry)
      → q.held.course ≡ flights.Landed rows → kept.flights ≡ replaced (is_numbered flight) taken p.flights.flights → p.flights.spare ≤ kept.spare
      → joins ≡ slice_set p.joins (lane - 1) (drop 1 (get_or p.joins (lane - 1) [])) → p.spare ≤ spare + 1 → journal' ≡ journal ++ Take lane flight None ∷ []
      → IsDesk tells l journal' (record p { spare = spare; owed = p.owed - 1; joins = joins; flights = kept })
  IsDesk-landed lane flight spare q rows kept joins journal' is looked room left fits grew =
      let a = h.agrees in
      let e : Entry = Take lane flight None in
      let p' : Inner L = record p { spare = spare; owed = p.owed - 1; joins = joins; flights = kept } in
      let may = landed_allowed lane flight q rows is in
      let gone = let_go_are lane flight q kept (ap runs is) looked in
      IsDesk-push tells l journal journal' p p' e h may grew (record {
        versions = a.versions;
        shelves = a.shelves;
        flights = record { flown = gone.0; started = a.flights.started; each = gone.1 };
        joins = joins_after lane flight q (work_taken (work_of s lane) None) joins refl left;
        idle = a.idle;
        fresh = a.fresh;
        room = room-less s (next l s e) p p' a.room (owed_next l s e (desk-reached tells l journal p h) may) refl fits (omega (arith, room)) (omega arith)
            (length-set s.works (lane - 1) _) (omega arith);
      }) (wrecks-same tells l.script.fails _ p.wrecks.items h.wrecks)

  pub looks-landed : (lane flight : ℕ) (q : Waits lane flight) (share : Share) → HasLanded q.held.course q.held.key share
      → LooksAs s (flight_at s flight) (told.Landed share)
  looks-landed lane flight q share is =
      let table : is.rows ≡ answer q.held.key (rows_at s.versions q.held.stamp) = rw is.is at q.is.table in
      rw q.flown (ap course_of is.is, IfSome_then share is.told (λ both t. (t.0, t.1 ∙ table)))

  -- it fell: the zone's own query takes off

  pub started-few : p.started + 1 < 2 ^ 64
  started-few = omega (arith, few l journal h.loaded h.legal, h.agrees.flights.started)

  pub fallen-above : (lane flight number : ℕ) (q : Waits lane flight) (kept : FlightsOf) → q.held.course ≡ flights.Fallen → number ≡ p.started + 1
      → kept.flights ≡ replaced (is_numbered flight) taken p.flights.flights → list_all (λ f. nat_lt f.number number) kept.flights ≡ true
  fallen-above lane flight number q kept is follows looked =
      let gone = let_go_are lane flight q kept (ap runs is) looked in
      let ascend = ascend-let_go 0 s.flights.started flight s.flights.flown (IsOwned-reached l s (desk-reached tells l journal p h)).numbers in
      numbers_below s.flights.started number kept.flights (omega (arith, follows, h.agrees.flights.started))
      (rw gone.0 (ascend-numbers 0 s.flights.started (let_go flight s.flights.flown) ascend))

  pub looks-fallen : (lane flight number : ℕ) (q : Waits lane flight) → q.held.course ≡ flights.Fallen → number ≡ p.started + 1 → LooksAs s (flight_at s flight) (told.Fallen number)
  looks-fallen lane flight number q is follows = rw q.flown (ap course_of is, omega (arith, follows, h.agrees.flights.started))

  pub IsDesk-fallen : (lane flight number spare : ℕ) (q : Waits lane flight) (first : Joined) (kept gone : FlightsOf) (joins : List (List Joined)) (journal' : List Entry)
      → q.held.course ≡ flights.Fallen → number ≡ p.started + 1 → first ≡ q.join → IsSizedQuery first.query
      → gone.flights ≡ replaced (is_numbered flight) taken p.flights.flights → p.flights.spare ≤ gone.spare
      → kept.flights ≡ gone.flights ++ record { number = number; lane = lane; stamp = first.stamp; key = first.query; course = flights.Running; joiners = 0 } ∷ []
      → gone.spare ≤ kept.spare + 1
      → joins ≡ slice_set p.joins (lane - 1) (drop 1 (get_or p.joins (lane - 1) [])) → p.spare ≤ spare + 1 → journal' ≡ journal ++ Take lane flight (Some number) ∷ []
      → IsDesk tells l journal' (record p { spare = spare; owed = p.owed - 1; joins = joins; flights = kept; started = number })
  IsDesk-fallen lane flight number spare q first kept gone joins journal' is follows this sized looked room starts less left fits grew =
      let a = h.agrees in
      let w = work_of s lane in
      let e : Entry = Take lane flight (Some number) in
      let p' : Inner L = record p { spare = spare; owed = p.owed - 1; joins = joins; flights = kept; started = number } in
      let may = fallen_allowed lane flight number q is follows in
      let both = let_go_are lane flight q gone (ap runs is) looked in
      let new : FlightOf = record { number = number; lane = lane; stamp = first.stamp; key = first.query; course = flights.Running; joiners = 0 } in
      let known : Each (λ (j : Joined). j.stamp ≤ length s.versions) (q.join ∷ q.others) =
      rw q.joins at ((IsStamped-reached l s (desk-reached tells l journal p h)).joins (lane - 1)) in
      let own : flown_of new ∷ [] ≡ own_flight number lane w.joins = rw q.joins (ap (λ (j : Joined). flown_of (record new { stamp = j.stamp; key = j.query }) ∷ []) this) in
      IsDesk-push tells l journal journal' p p' e h may grew (record {
        versions = a.versions;
        shelves = a.shelves;
        flights = record {
          flown = ap (map flown_of) starts ∙ map-append flown_of gone.flights (new ∷ []) ∙ λ i. both.0 i ++ own i;
          started = refl;
          each = rw starts (all-append (IsFlight s.versions) gone.flights (new ∷ []) both.1
              (record { stamp = omega (arith, known.0, ap (λ (j : Joined). j.stamp) this); table = tt; sized = sized }, tt));
        };
        joins = joins_after lane flight q (work_taken w (Some number)) joins refl left;
        idle = a.idle;
        fresh = a.fresh;
        room = room-less s (next l s e) p p' a.room (owed_next l s e (desk-reached tells l journal p h) may) refl fits (omega (arith, room, less)) (omega arith)
            (length-set s.works (lane - 1) _) (omega arith);
      }) (wrecks-same tells l.script.fails _ p.wrecks.items h.wrecks)
