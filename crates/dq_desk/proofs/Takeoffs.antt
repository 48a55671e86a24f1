-- The flights after an admission, and what stands of the queries' sources.
use Rattle.std.proofs.Common.{◌≡◌, ℕ, zero, suc, ◌+◌, ◌<◌, ◌≤◌, ◌^◌, Bool, true, false, ◌&&◌, cond, List, [], ◌∷◌, ◌++◌, map, find, length, refl, sym, ap, ◌∙◌, subst, arith}
use Rattle.std.proofs.lemmas.Bool.Decides.{nat_tests}
use Rattle.std.proofs.lemmas.Bool.{eq-eqb}
use Rattle.std.specs.List.{AllByRecursion, list_all}
use Rattle.std.specs.Option.{option_map}
use Rattle.std.specs.Prelude.{All, Option, Some, None, IsSomeAnd, is_some, nat_eq, nat_lt, slice_get, if◌then◌else◌}
use Rattle.dq_base.specs.Batches.{Group}
use Rattle.dq_base.specs.Covering.{covers}
use Rattle.dq_base.specs.Headings.{Heading}
use Rattle.dq_base.specs.Versions.{Version}
use Rattle.dq_base.specs.declared.query.Query.{Query}
use Rattle.dq_cache.specs.Entries.{BodiedOf, EntryOf, fits, has_body}
use Rattle.dq_flight.specs.Flights.{Course, FlightOf, Running, flight_of, is_numbered, joined, replaced, runs}
use Rattle.dq_flight.specs.Flights as flights
use Rattle.dq_journal.specs.declared.entry.Met.{Met}
use Rattle.dq_laws.specs.Numbers.{ascends}
use Rattle.dq_machine.proofs.Reached.{and_both, and_first, and_second}
use Rattle.dq_machine.specs.Admitting.{group_flights, joined_by, with_joiner}
use Rattle.dq_machine.specs.Latest.{AreLatest}
use Rattle.dq_machine.specs.Refreshing.{AreStanding, standing}
use Rattle.dq_machine.specs.State as state
use Rattle.dq_machine.specs.State.{Flown, Joined, Publication}
use Rattle.dq_text.specs.Sizes.{IsSizedQuery}
use Rattle.dq_text.specs.Statements.{body}
use Rattle.dq_desk.specs.Admissions.{AreStarted, AreStood, IsStood, StartedOf, StoodOf}
use Rattle.dq_desk.specs.Kept.{IsFlight, flown_of}
use Rattle.dq_desk.specs.Plans.{AllCanJoin, AllStand, AllStart, CanJoin, StandsAs, all_joined, joins_by, planned, planned_by, started_flights}
use Rattle.dq_desk.proofs.Along.{found_is, found_passes}
use Rattle.dq_desk.proofs.Stamps.{stamp_within}

pub all_mapped : {X Y : Type 0} (P : Y → Type 0) (g : X → Y) (xs : List X) → All P (map g xs) → AllByRecursion (λ x. P (g x)) xs
all_mapped P g [] h = tt
all_mapped P g (x ∷ xs) h = (h zero (g x) (omega arith), all_mapped P g xs (λ k d lt. h (suc k) d (omega (arith, lt))))

-- a flight by its number

found_behind : (f g : FlightOf) (test : FlightOf → Bool) (fs : List FlightOf) → find test fs ≡ Some g → list_all (λ (x : Flown). nat_lt f.number x.number) (map flown_of fs) ≡ true → f.number < g.number
found_behind f g test [] at h = absurd (no at)
  where
    no : None ≡ Some g → ⊥
    no e = cc
found_behind f g test (x ∷ fs) at h =
    by (test x) at (λ e. found_behind f g test fs e (and_second (nat_lt f.number x.number) (list_all (λ (y : Flown). nat_lt f.number y.number) (map flown_of fs)) h))
  where
    by : (b : Bool) → cond b (Some x) (find test fs) ≡ Some g → (find test fs ≡ Some g → f.number < g.number) → f.number < g.number
    by true e more =
        let same : x ≡ g = cc in
        let one : nat_lt f.number x.number ≡ true = and_first (nat_lt f.number x.number) (list_all (λ (y : Flown). nat_lt f.number y.number) (map flown_of fs)) h in
        let lt : f.number < x.number = grind (arith, nat_tests) in
        let P : FlightOf → Type 0 = λ y. f.number < y.number in
        subst P same lt
    by false e more = more e

by_number : (test : FlightOf → Bool) (fs : List FlightOf) (f : FlightOf) → ascends (map flown_of fs) ≡ true → find test fs ≡ Some f → flight_of f.number fs ≡ Some f
by_number test [] f order at = absurd (no at)
  where
    no : None ≡ Some f → ⊥
    no e = cc
by_number test (x ∷ fs) f order at =
    let behind : list_all (λ (y : Flown). nat_lt x.number y.number) (map flown_of fs) ≡ true = and_first (list_all (λ (y : Flown). nat_lt x.number y.number) (map flown_of fs)) (ascends (map flown_of fs)) order in
    let rest : ascends (map flown_of fs) ≡ true = and_second (list_all (λ (y : Flown). nat_lt x.number y.number) (map flown_of fs)) (ascends (map flown_of fs)) order in
    by (test x) at behind (by_number test fs f rest)
  where
    by : (b : Bool) → cond b (Some x) (find test fs) ≡ Some f → list_all (λ (y : Flown). nat_lt x.number y.number) (map flown_of fs) ≡ true
        → (find test fs ≡ Some f → flight_of f.number fs ≡ Some f) → flight_of f.number (x ∷ fs) ≡ Some f
    by true e behind more =
        let same : x ≡ f = cc in
        let own : nat_eq x.number f.number ≡ true = eq-eqb x.number f.number (ap (λ (y : FlightOf). y.number) same) in
        rw own (ap (λ (y : FlightOf). Some y) same)
    by false e behind more =
        let lt : x.number < f.number = found_behind x f test fs e behind in
        let other : nat_eq x.number f.number ≡ false = grind (arith, nat_tests) in
        rw other (more e)

-- those that a plan joins can be joined

module _ (fs : List FlightOf) (many : ℕ) (order : ascends (map flown_of fs) ≡ true) (few : AllByRecursion (λ f. f.joiners + many < 2 ^ 64) fs) where
  can_join : (stamp : ℕ) (q : Query) (o : Option FlightOf) (n : ℕ) → find (flights.fits stamp q) fs ≡ o → option_map (λ (f : FlightOf). f.number) o ≡ Some n → CanJoin many fs n
  can_join stamp q None n at is = absurd (no is)
    where
      no : None ≡ Some n → ⊥
      no e = cc
  can_join stamp q (Some f) n at is =
      let same : f.number ≡ n = cc in
      let there : flight_of f.number fs ≡ Some f = by_number (flights.fits stamp q) fs f order at in
      let passes = found_passes (flights.fits stamp q) fs f at in
      let run : runs f.course ≡ true = and_first (runs f.course) (nat_eq f.stamp stamp && covers f.key q) passes in
      let small : f.joiners + many < 2 ^ 64 = found_is (λ (f : FlightOf). f.joiners + many < 2 ^ 64) (flights.fits stamp q) fs f at few in
      let O : Option FlightOf → Type 0 = λ o. IsSomeAnd o (λ f. (runs f.course ≡ true) × (f.joiners + many < 2 ^ 64)) in
      let N : ℕ → Type 0 = λ k. CanJoin many fs k in
      subst N same (subst O (sym there) (run, small))

  join_by : (clever : List EntryOf) (literal : List BodiedOf) (stamp : ℕ → ℕ) (q : Query) (queries : List Query) (a b : Bool) (o : Option ℕ)
      → option_map (λ (f : FlightOf). f.number) (find (flights.fits (stamp q.source) q) fs) ≡ o → (rest : List (Option Met)) → AllCanJoin many fs (joins_by stamp rest queries)
      → AllCanJoin many fs (joins_by stamp (planned_by a b o ∷ rest) (q ∷ queries))
  join_by clever literal stamp q queries true b o is rest more = more
  join_by clever literal stamp q queries false true o is rest more = more
  join_by clever literal stamp q queries false false None is rest more = more
  join_by clever literal stamp q queries false false (Some n) is rest more = (can_join (stamp q.source) q (find (flights.fits (stamp q.source) q) fs) n refl is, more)

  pub plan_can : (clever : List EntryOf) (literal : List BodiedOf) (stamp : ℕ → ℕ) (queries : List Query)
      → AllCanJoin many fs (joins_by stamp (map (λ (q : Query). planned clever literal fs (stamp q.source) q (body q)) queries) queries)
  plan_can clever literal stamp [] = tt
  plan_can clever literal stamp (q ∷ queries) =
      join_by clever literal stamp q queries (is_some (find (fits (stamp q.source) q) clever)) (is_some (find (has_body (stamp q.source) (body q)) literal))
      (option_map (λ (f : FlightOf). f.number) (find (flights.fits (stamp q.source) q) fs)) refl _ (plan_can clever literal stamp queries)

-- joiners change no number

below_if : (n : ℕ) (b : Bool) (f : FlightOf) (fs rest : List FlightOf) → list_all (λ (g : FlightOf). nat_lt g.number n) rest ≡ list_all (λ (g : FlightOf). nat_lt g.number n) fs
    → list_all (λ (g : FlightOf). nat_lt g.number n) (if b then joined f ++ fs else f ∷ rest) ≡ list_all (λ (g : FlightOf). nat_lt g.number n) (f ∷ fs)
below_if n true f fs rest same = refl
below_if n false f fs rest same = ap (λ (b : Bool). nat_lt f.number n && b) same

below_one : (n k : ℕ) (fs : List FlightOf) → list_all (λ (g : FlightOf). nat_lt g.number n) (replaced (is_numbered k) joined fs) ≡ list_all (λ (g : FlightOf). nat_lt g.number n) fs
below_one n k [] = refl
below_one n k (f ∷ fs) = below_if n (is_numbered k f) f fs (replaced (is_numbered k) joined fs) (below_one n k fs)

pub below_joined : (n : ℕ) (fs : List FlightOf) (joins : List Joined) → list_all (λ (g : FlightOf). nat_lt g.number n) (all_joined fs joins) ≡ list_all (λ (g : FlightOf). nat_lt g.number n) fs
below_joined n fs [] = refl
below_joined n fs (j ∷ joins) = below_joined n (replaced (is_numbered j.flight) joined fs) joins ∙ below_one n j.flight fs

pub all_below : (n : ℕ) (fs : List FlightOf) → AllByRecursion (λ f. f.number ≤ n) fs → list_all (λ (g : FlightOf). nat_lt g.number (n + 1)) fs ≡ true
all_below n [] h = refl
all_below n (f ∷ fs) h =
    let lt : f.number < n + 1 = omega (arith, h.0) in
    let one : nat_lt f.number (n + 1) ≡ true = grind (arith, nat_tests) in
    and_both (nat_lt f.number (n + 1)) (list_all (λ (g : FlightOf). nat_lt g.number (n + 1)) fs) one (all_below n fs h.1)

-- they are the machine's

flown_if : (b : Bool) (f : FlightOf) (fs rest : List FlightOf) (ms : List Flown) → map flown_of rest ≡ ms
    → map flown_of (if b then joined f ++ fs else f ∷ rest) ≡ (if b then with_joiner (flown_of f) ++ map flown_of fs else flown_of f ∷ ms)
flown_if true f fs rest ms same = refl
flown_if false f fs rest ms same = ap (λ more. flown_of f ∷ more) same

flown_one : (n : ℕ) (fs : List FlightOf) → map flown_of (replaced (is_numbered n) joined fs) ≡ replaced (state.is_numbered n) with_joiner (map flown_of fs)
flown_one n [] = refl
flown_one n (f ∷ fs) = flown_if (is_numbered n f) f fs (replaced (is_numbered n) joined fs) (replaced (state.is_numbered n) with_joiner (map flown_of fs)) (flown_one n fs)

pub flown_joined : (fs : List FlightOf) (joins : List Joined) → map flown_of (all_joined fs joins) ≡ joined_by (map flown_of fs) joins
flown_joined fs [] = refl
flown_joined fs (j ∷ joins) = flown_joined (replaced (is_numbered j.flight) joined fs) joins ∙ ap (λ ms. joined_by ms joins) (flown_one j.flight fs)

pub flown_started : (stamps : List ℕ) (versions : List Publication) (lane number : ℕ) (gs : List Group) → AreLatest stamps versions
    → map flown_of (started_flights stamps lane number (map (λ (g : Group). g.key) gs)) ≡ group_flights versions lane number gs
flown_started stamps versions lane number [] latest = refl
flown_started stamps versions lane number (g ∷ gs) latest =
    (λ j. record { number = number; lane = lane; stamp = latest.each g.key.source j; key = g.key; course = state.Running; joiners = 0 } ∷ flown_started stamps versions lane (number + 1) gs latest j)

-- each is a flight

module _ (versions : List Publication) where
  flight_if : (b : Bool) (f : FlightOf) (fs rest : List FlightOf) → IsFlight versions f → AllByRecursion (IsFlight versions) fs → AllByRecursion (IsFlight versions) rest
      → AllByRecursion (IsFlight versions) (if b then joined f ++ fs else f ∷ rest)
  flight_if true f fs rest one all more = (record { stamp = one.stamp; table = one.table; sized = one.sized }, all)
  flight_if false f fs rest one all more = (one, more)

  flight_one : (n : ℕ) (fs : List FlightOf) → AllByRecursion (IsFlight versions) fs → AllByRecursion (IsFlight versions) (replaced (is_numbered n) joined fs)
  flight_one n [] h = tt
  flight_one n (f ∷ fs) h = flight_if (is_numbered n f) f fs (replaced (is_numbered n) joined fs) h.0 h.1 (flight_one n fs h.1)

  pub flights_joined : (fs : List FlightOf) (joins : List Joined) → AllByRecursion (IsFlight versions) fs → AllByRecursion (IsFlight versions) (all_joined fs joins)
  flights_joined fs [] h = h
  flights_joined fs (j ∷ joins) h = flights_joined (replaced (is_numbered j.flight) joined fs) joins (flight_one j.flight fs h)

  pub flights_started : (stamps : List ℕ) (lane number : ℕ) (keys : List Query) → AreLatest stamps versions → AllByRecursion IsSizedQuery keys
      → AllByRecursion (IsFlight versions) (started_flights stamps lane number keys)
  flights_started stamps lane number [] latest sized = tt
  flights_started stamps lane number (k ∷ keys) latest sized = (
    record { stamp = omega (arith, latest.each k.source, stamp_within versions k.source); table = tt; sized = sized.0 },
    flights_started stamps lane (number + 1) keys latest sized.1,
  )

  pub all_both : (fs gs : List FlightOf) → AllByRecursion (IsFlight versions) fs → AllByRecursion (IsFlight versions) gs → AllByRecursion (IsFlight versions) (fs ++ gs)
  all_both [] gs h more = more
  all_both (f ∷ fs) gs h more = (h.0, all_both fs gs h.1 more)

-- what stands

module _ (schemas : List Heading) (versions : List Publication) (stamps : List ℕ) (stands : List Version) (latest : AreLatest stamps versions) (standing_are : AreStanding schemas versions stands) where
  stood_by : (source : ℕ) (s : StoodOf) (o : Option Heading) → slice_get schemas source ≡ o → source < length schemas → StandsAs stamps stands source s → IsStood schemas versions source s
  stood_by source s None at lt is = absurd (none_within schemas source at lt)
    where
      none_within : (xs : List Heading) (i : ℕ) → slice_get xs i ≡ None → i < length xs → ⊥
      none_within [] i e lt = omega (arith, lt)
      none_within (x ∷ xs) zero e lt = cc
      none_within (x ∷ xs) (suc i) e lt = none_within xs i e (omega (arith, lt))
  stood_by source s (Some heading) at lt is =
      let there = standing_are.each source heading at in
      let same : s.extract ≡ standing versions source heading = some_same (sym is.1 ∙ there) in
      record {
        stamp = is.0 ∙ latest.each source;
        heading = at ∙ ap (λ (v : Version). Some v.heading) (sym same);
        rows = ap (λ (v : Version). v.rows) same;
      }
    where
      some_same : {a b : Version} → Some a ≡ Some b → a ≡ b
      some_same e = cc

  pub are_stood : (queries : List Query) (stood : List StoodOf) → AllByRecursion (λ q. q.source < length schemas) queries → AllStand stamps stands queries stood → AreStood schemas versions queries stood
  are_stood [] [] within h = tt
  are_stood [] (s ∷ stood) within h = absurd h
  are_stood (q ∷ queries) [] within h = absurd h
  are_stood (q ∷ queries) (s ∷ stood) within h = (stood_by q.source s (slice_get schemas q.source) refl within.0 h.0, are_stood queries stood within.1 h.1)

  pub are_started : (number : ℕ) (gs : List Group) (ss : List StartedOf) → AllByRecursion (λ g. g.key.source < length schemas) gs → AllStart stamps stands number gs ss
      → AreStarted schemas versions number gs ss
  are_started number [] [] within h = tt
  are_started number [] (s ∷ ss) within h = absurd h
  are_started number (g ∷ gs) [] within h = absurd h
  are_started number (g ∷ gs) (s ∷ ss) within h = (
    record { flight = h.0.flight; key = h.0.key; stood = stood_by g.key.source s.stood (slice_get schemas g.key.source) refl within.0 h.0.stood; members = h.0.members },
    are_started (number + 1) gs ss within.1 h.1,
  )
