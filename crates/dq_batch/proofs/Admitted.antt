-- A batch behind its admission.
use Rattle.std.proofs.Common.{◌≡◌, ℕ, suc, ◌+◌, ◌-◌, ◌<◌, ◌≤◌, Bool, true, false, ◌&&◌, not, eqb, List, [], ◌∷◌, ◌++◌, length, drop, take, find, refl, sym, ap, ◌∙◌, arith}
use Rattle.std.proofs.lemmas.Bool.{eq-eqb}
use Rattle.std.proofs.lemmas.Bool.Decides.{nat_tests}
use Rattle.std.proofs.lemmas.List.{get_or-set_same}
use Rattle.std.specs.List.{AllByRecursion, list_any, enumerate_from}
use Rattle.std.specs.Prelude.{All, Option, Some, None, nat_eq, nat_lt}
use Rattle.dq_base.specs.Batches.{Group}
use Rattle.dq_base.specs.Headings.{Heading}
use Rattle.dq_base.specs.Scripts.{is_lane, step_of}
use Rattle.dq_base.specs.Validity.{invalid_by}
use Rattle.dq_base.specs.declared.query.Query.{Query}
use Rattle.dq_cache.specs.declared.entry.Found.{Found}
use Rattle.dq_extract.specs.Loads.{LoadedFiles}
use Rattle.dq_fates.proofs.Bringing.{there}
use Rattle.dq_graph.specs.declared.prepared.Prepared.{Prepared}
use Rattle.dq_journal.specs.declared.entry.Entry.{Entry}
use Rattle.dq_journal.specs.declared.entry.Entry.TheVariants.{Admit}
use Rattle.dq_journal.specs.declared.entry.Met.{Met}
use Rattle.dq_laws.proofs.Each.{Each, each-found}
use Rattle.dq_laws.proofs.Goes.{legal_reached}
use Rattle.dq_laws.proofs.Joiners.{joins_found}
use Rattle.dq_laws.proofs.Losing.{numbers_among}
use Rattle.dq_laws.proofs.Numbered.{ascend-joined}
use Rattle.dq_laws.proofs.Owned.{IsOwned-reached}
use Rattle.dq_laws.proofs.Owners.{any_among}
use Rattle.dq_laws.proofs.Pushed.{pushed}
use Rattle.dq_laws.specs.Keys.{KeysAre}
use Rattle.dq_machine.proofs.Reached.{and_first, and_second, reached-works}
use Rattle.dq_machine.specs.Admitting.{Admission, admission_of, group_flights, is_batch, joined_by, looked, missed, number_in, numbers_from, taking_off}
use Rattle.dq_machine.specs.Machine.{after, legal, may_begin, work_admitted, work_by}
use Rattle.dq_machine.specs.Owning.{started_behind}
use Rattle.dq_machine.specs.Publishing.{stamp_in}
use Rattle.dq_machine.specs.State.{Flown, Publication, State, Work, flight_at, is_free, is_numbered, no_work, none_left, work_of}
use Rattle.dq_desk.specs.Admissions.{AreHeld, AreStarted, AreStood, IsStarted, StartedOf, StoodOf, may_admit_now, remotes_at}
use Rattle.dq_desk.specs.Events.{is_there}
use Rattle.dq_zones.specs.declared.fetch.Fetch.{Fetch}
use Rattle.dq_batch.specs.Beginning.{all_begun}
use Rattle.dq_batch.specs.Fetching.{AreFetches, CoversAt, waits_of}
use Rattle.dq_batch.specs.Nexts.{CanBegin, IsNext}
use Rattle.dq_batch.specs.Open.{IsBatch, IsOpen, IsToCome, versions_at, zones_at}
use Rattle.dq_batch.specs.Prepared.{IsPreparedFor}
use Rattle.dq_batch.specs.declared.open.Current.{Current}
use Rattle.dq_batch.specs.declared.open.Open.{Open}
use Rattle.dq_batch.proofs.Begins.{Flies, begun_all, joins_begun}
use Rattle.dq_batch.proofs.Fetches.{IsThere, covers_later}
use Rattle.dq_batch.proofs.Flies.{can_begin, next_on, next_own, next_seen}
use Rattle.dq_batch.proofs.Groups.{Starts, each_within, misses_start}
use Rattle.dq_batch.proofs.Journals.{numbered_last}
use Rattle.dq_batch.proofs.Meets.{AllFit, looked_fits}
use Rattle.dq_batch.proofs.Opens.{flights_of}
use Rattle.dq_batch.proofs.Takes.{found_behind}

-- the last entry's place

take_front : {X : Type 0} (xs ys : List X) → take (length xs) (xs ++ ys) ≡ xs
take_front [] ys = refl
take_front (x ∷ xs) ys = ap (λ zs. x ∷ zs) (take_front xs ys)

drop_whole : {X : Type 0} (xs : List X) → drop (length xs) xs ≡ []
drop_whole [] = refl
drop_whole (x ∷ xs) = drop_whole xs

long_pushed : {X : Type 0} (xs : List X) (x : X) → length (xs ++ x ∷ []) ≡ length xs + 1
long_pushed [] x = refl
long_pushed (y ∷ xs) x = let more = long_pushed xs x in omega (arith, more)

-- keys

each_all : {X : Type 0} (P : X → Type 0) (xs : List X) → All P xs → Each P xs
each_all P [] h = tt
each_all P (x ∷ xs) h = (h 0 x (omega arith), each_all P xs (λ k d lt. h (suc k) d (omega arith)))

-- the admission may come

module _ (l : LoadedFiles) (s : State) (lane step : ℕ) (may : may_admit_now l s lane step ≡ true) where
  admits : (may_begin (work_of s lane) step && is_batch (step_of l.script.lanes lane step)) ≡ true
  admits = and_second (is_there s lane) (may_begin (work_of s lane) step && is_batch (step_of l.script.lanes lane step)) may

  admits_batch : is_batch (step_of l.script.lanes lane step) ≡ true
  admits_batch = and_second (may_begin (work_of s lane) step) (is_batch (step_of l.script.lanes lane step)) admits

  not_ended : (w : Work) → is_free w ≡ true → w.ended ≡ false
  not_ended w free = unended (w.ended) (and_first (not w.ended) (none_left w.own) (and_first (not w.ended && none_left w.own) (none_left w.joins) free))
    where
      unended : (b : Bool) → not b ≡ true → b ≡ false
      unended true h = let no : ⊥ = cc in absurd no
      unended false h = refl

  admits_unended : (work_of s lane).ended ≡ false
  admits_unended =
      not_ended (work_of s lane) (and_first (is_free (work_of s lane)) (nat_lt (work_of s lane).last step) (and_first (may_begin (work_of s lane) step) (is_batch (step_of l.script.lanes lane step)) admits))

  admits_there : is_there s lane ≡ true
  admits_there = and_first (is_there s lane) (may_begin (work_of s lane) step && is_batch (step_of l.script.lanes lane step)) may

-- the flights that start

started_own : (schemas : List Heading) (versions : List Publication) (number : ℕ) (gs : List Group) (ts : List StartedOf) → AreStarted schemas versions number gs ts → numbers_from number gs ≡ flights_of ts
started_own schemas versions number [] [] h = refl
started_own schemas versions number [] (t ∷ ts) h = absurd h
started_own schemas versions number (g ∷ gs) [] h = absurd h
started_own schemas versions number (g ∷ gs) (t ∷ ts) h =
    let one = sym h.0.flight in
    let rest = started_own schemas versions (number + 1) gs ts h.1 in
    (λ i. one i ∷ rest i)

module _ (schemas : List Heading) (versions : List Publication) (lane : ℕ) (s' : State) (valid : (n : ℕ) (f : Flown) → flight_at s' n ≡ Some f → invalid_by schemas f.key ≡ None) where
  come_one : (number : ℕ) (g : Group) (gs : List Group) (t : StartedOf) → flight_at s' number ≡ find (is_numbered number) (group_flights versions lane number (g ∷ gs)) → IsStarted schemas versions number g t
      → IsToCome schemas s' versions t
  come_one number g gs t at h =
      let found : flight_at s' number ≡ Some (taking_off number lane (stamp_in versions g.key.source) g.key) = at ∙ rw (eq-eqb number number refl) refl in
      record {
        valid = rw h.key (valid number (taking_off number lane (stamp_in versions g.key.source) g.key) found);
        stood = rw h.key h.stood;
        asked = rw (h.flight, found) (sym h.key, sym h.stood.stamp);
      }

  all_come : (number : ℕ) (gs : List Group) (ts : List StartedOf) → ((n : ℕ) → number ≤ n → flight_at s' n ≡ find (is_numbered n) (group_flights versions lane number gs)) → AreStarted schemas versions number gs ts
      → AllByRecursion (IsToCome schemas s' versions) ts
  all_come number [] [] at h = tt
  all_come number [] (t ∷ ts) at h = absurd h
  all_come number (g ∷ gs) [] at h = absurd h
  all_come number (g ∷ gs) (t ∷ ts) at h = (
    come_one number g gs t (at number (omega arith)) h.0,
    all_come (number + 1) gs ts (λ n le. let other : eqb number n ≡ false = grind (arith, nat_tests) in let more : number ≤ n = omega (arith, le) in at n more ∙ rw other refl) h.1,
  )

-- the machine behind it

module _ (l : LoadedFiles) (old : List Entry) (lane step : ℕ) (may : may_admit_now l (after l old) lane step ≡ true)
    (lawful : legal l (old ++ Admit lane step (admission_of l (after l old) lane step).met ∷ []) ≡ true) where
  abbrev pub before : State
  before = after l old

  abbrev pub adm : Admission
  adm = admission_of l before lane step

  abbrev pub behind : List Entry
  behind = old ++ Admit lane step adm.met ∷ []

  admitted_work : work_of (after l behind) lane ≡ work_admitted before (work_of before lane) step adm
  admitted_work =
      let e : Entry = Admit lane step adm.met in
      let p = pushed l old e lawful in
      let lt = there l before e p.allowed in
      rw p.after (get_or-set_same before.works (lane - 1) (work_by l before (work_of before lane) e) no_work lt)

  old_legal : legal l old ≡ true
  old_legal = (pushed l old (Admit lane step adm.met) lawful).legal

  lane_is : is_lane (length l.script.lanes) lane ≡ true
  lane_is = rw (← reached-works l before (legal_reached l old old_legal)) (admits_there l before lane step may)

  lane_above : 0 < lane
  lane_above = let first : nat_lt 0 lane ≡ true = and_first (nat_lt 0 lane) _ lane_is in grind (arith, nat_tests)

  group_at : (n : ℕ) → before.flights.started + 1 ≤ n → flight_at (after l behind) n ≡ find (is_numbered n) (group_flights before.versions lane (before.flights.started + 1) adm.groups)
  group_at n le =
      let p = pushed l old (Admit lane step adm.met) lawful in
      let numbers = ascend-joined 0 before.flights.started before.flights.flown adm.joins (IsOwned-reached l before (legal_reached l old old_legal)).numbers in
      let lt : before.flights.started < n = omega (arith, le) in
      rw p.after (found_behind n before.flights.started (joined_by before.flights.flown adm.joins) (group_flights before.versions lane (before.flights.started + 1) adm.groups) numbers lt)

  abbrev found : List (Option Met)
  found = (looked before.flights.flown before.versions before.shelves (remotes_at l lane step)).found

  fits : AllFit before.flights.flown before.versions (remotes_at l lane step) found
  fits = looked_fits before.flights.flown before.versions before.flights.started (IsOwned-reached l before (legal_reached l old old_legal)).numbers before.shelves (remotes_at l lane step)

  flies_by : (q : Query) (n : ℕ) → Starts before.versions lane (before.flights.started + 1) adm.groups q n
      → (list_any (nat_eq n) (work_of (after l behind) lane).own ≡ true) × CoversAt before.versions q (flight_at (after l behind) n)
  flies_by q n h =
      let both = numbers_among (before.flights.started + 1) n adm.groups h.0 in
      (rw admitted_work (any_among (numbers_from (before.flights.started + 1) adm.groups) n h.0), rw (group_at n both.0) h.1)

  joins_there : Each (IsThere (after l behind)) adm.joins
  joins_there =
      let js = ap (λ (w : Work). w.joins) admitted_work in
      rw (← js) (joins_found l (after l behind) (lane - 1) (legal_reached l behind lawful))

  module _ (held : List (Option Found)) (are_held : AreHeld l.script.schemas before.versions (remotes_at l lane step) adm.met held) where
    all_fly : Each (Flies behind before (after l behind) lane l.script.schemas before.versions (before.flights.started + 1) adm.groups
        (covers_later l old (Admit lane step adm.met ∷ []) lane before.versions lawful lane_above)) (enumerate_from 0 (missed found (remotes_at l lane step)))
    all_fly =
        let misses = missed found (remotes_at l lane step) in
        each_within (Flies behind before (after l behind) lane l.script.schemas before.versions (before.flights.started + 1) adm.groups
        (covers_later l old (Admit lane step adm.met ∷ []) lane before.versions lawful lane_above)) (enumerate_from 0 misses)
        (λ p w. flies_by p.1 (number_in (before.flights.started + 1) adm.groups p.0) (misses_start before.versions lane (before.flights.started + 1) misses p w))

    first_fetches : AreFetches behind (after l behind) lane before.versions adm.met [] (remotes_at l lane step) (all_begun adm.met held)
    first_fetches =
        begun_all behind before (after l behind) lane l.script.schemas before.versions (before.flights.started + 1) adm.groups
        (covers_later l old (Admit lane step adm.met ∷ []) lane before.versions lawful lane_above) 0 found (remotes_at l lane step) held fits joins_there all_fly are_held

    first_joins : (work_of (after l behind) lane).joins ≡ waits_of before.versions (remotes_at l lane step) (all_begun adm.met held)
    first_joins =
        ap (λ (w : Work). w.joins) admitted_work
        ∙ joins_begun behind before (after l behind) lane l.script.schemas before.versions (before.flights.started + 1) adm.groups
        (covers_later l old (Admit lane step adm.met ∷ []) lane before.versions lawful lane_above) 0 found (remotes_at l lane step) held fits are_held

    module _ (started : List StartedOf) (are_started : AreStarted l.script.schemas before.versions (before.flights.started + 1) adm.groups started) where
      first_own : (work_of (after l behind) lane).own ≡ flights_of started
      first_own = ap (λ (w : Work). w.own) admitted_work ∙ started_own l.script.schemas before.versions (before.flights.started + 1) adm.groups started are_started

      pub first_begins : CanBegin l lane behind started
      first_begins = can_begin l lane behind started lane_is first_own (ap (λ (w : Work). w.phase) admitted_work)

      module _ {L : Type 0} (keys : KeysAre (λ q. invalid_by l.script.schemas q ≡ None) (after l behind)) (place : ℕ) (at : place ≡ length behind) (prepared : Prepared) (queries : List Query) (stood : List StoodOf)
          (now : Current L)
          (is_prepared : IsPreparedFor l.script.schemas (zones_at l lane step) prepared) (queries_are : queries ≡ remotes_at l lane step)
          (are_stood : AreStood l.script.schemas before.versions (remotes_at l lane step) stood) (follows : IsNext l lane behind started now) where
        place_is : place - 1 ≡ length old
        place_is = let long = long_pushed old (Admit lane step adm.met) in omega (arith, at, long)

        versions_are : before.versions ≡ versions_at l behind place
        versions_are = ap (λ (es : List Entry). (after l es).versions) (sym (ap (λ (n : ℕ). take n behind) place_is ∙ take_front old (Admit lane step adm.met ∷ [])))

        no_takes : [] ≡ started_behind behind lane place
        no_takes = rw (at, drop_whole behind) refl

        key_valid : (n : ℕ) (f : Flown) → flight_at (after l behind) n ≡ Some f → invalid_by l.script.schemas f.key ≡ None
        key_valid n f found =
            each-found (λ (g : Flown). invalid_by l.script.schemas g.key ≡ None) (is_numbered n) (after l behind).flights.flown f found
            (each_all (λ (g : Flown). invalid_by l.script.schemas g.key ≡ None) (after l behind).flights.flown keys.flights)

        abbrev first_batch : Open L
        first_batch = record {
          lane = lane;
          step = step;
          place = place;
          prepared = prepared;
          queries = queries;
          stood = stood;
          started = started;
          over = 0;
          fetches = all_begun adm.met held;
          current = now;
        }

        first_open : IsOpen l behind first_batch
        first_open =
            let s' = after l behind in
            let long = long_pushed old (Admit lane step adm.met) in
            record {
              legal = lawful;
              lane = lane_is;
              met = adm.met;
              entry = numbered_last old (Admit lane step adm.met) place (at ∙ long);
              batch = admits_batch l before lane step may;
              prepared = is_prepared;
              queries = queries_are;
              stood = rw (← versions_are, queries_are) are_stood;
              fetches = rw (← versions_are, ← no_takes, queries_are) first_fetches;
              joins = rw (← versions_are, queries_are) first_joins;
              over = omega arith;
              own = next_own l lane behind s' (versions_at l behind place) queries (work_of s' lane).own started now first_own follows;
              to_come = rw (← versions_are) (all_come l.script.schemas before.versions lane s' key_valid (before.flights.started + 1) adm.groups started group_at are_started);
              current = next_on l lane behind started now follows;
              last = ap (λ (w : Work). w.last) admitted_work;
              unended = ap (λ (w : Work). w.ended) admitted_work ∙ admits_unended l before lane step may;
            }

        pub first_held : IsBatch l behind first_batch
        first_held = record { held = first_open; seen = next_seen l lane behind started now follows }

        pub first_as : (l' : LoadedFiles) (new : List Entry) (fetches : List Fetch) → l' ≡ l → new ≡ behind → fetches ≡ all_begun adm.met held → IsBatch l' new (record first_batch { fetches = fetches })
        first_as l' new fetches loaded is begun = rw (loaded, is, begun) first_held
