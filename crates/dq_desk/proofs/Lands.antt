-- What a desk keeps when a flight lands or falls.
use Rattle.std.proofs.Common.{◌≡◌, ℕ, ◌+◌, ◌*◌, ◌-◌, ◌^◌, ◌<◌, ◌≤◌, true, false, not, ◌&&◌, List, [], ◌∷◌, ◌++◌, length, length-set, map, refl, ap, sym, ◌∙◌, arith}
use Rattle.std.proofs.lemmas.Bool.{eq-eqb}
use Rattle.std.proofs.lemmas.Bool.Decides.{nat_tests}
use Rattle.std.specs.List.{AllByRecursion}
use Rattle.std.specs.Prelude.{IsSomeAnd, Option, Some, None, is_none, is_some, nat_eq, nat_le, nat_lt, slice_index_or}
use Rattle.dq_base.specs.Answers.{answer}
use Rattle.dq_base.specs.Limits.{cell_room}
use Rattle.dq_base.specs.Scripts.{is_lane}
use Rattle.dq_base.specs.Spelling.{Bytes}
use Rattle.dq_base.specs.Validity.{invalid_by}
use Rattle.dq_base.specs.declared.bound.Bound.{Bound}
use Rattle.dq_base.specs.declared.kept.Kept.{Kept as Word}
use Rattle.dq_base.specs.declared.query.Query.{Query}
use Rattle.dq_cache.specs.Entries.{Answers, BodiedOf, CleverOf, EntryOf, Leaves, LiteralOf, Rows, cells_of, has_body, is_large, is_same, put_front, refusal, trimmed, weight_of}
use Rattle.dq_extract.specs.Loads.{LoadedFiles}
use Rattle.dq_flight.specs.Flights.{FlightOf, FlightsOf, ended, flight_of, is_numbered, replaced}
use Rattle.dq_flight.specs.Flights as flights
use Rattle.dq_journal.specs.declared.entry.Cause.{Cause}
use Rattle.dq_journal.specs.declared.entry.Entry.{Entry}
use Rattle.dq_journal.specs.declared.entry.Entry.TheVariants.{Land, Fall}
use Rattle.dq_laws.proofs.Flying.{IsFlying-reached}
use Rattle.dq_laws.proofs.Losing.{first_among}
use Rattle.dq_laws.proofs.Owed.{owed_next}
use Rattle.dq_laws.specs.Flying.{RunsFor}
use Rattle.dq_laws.specs.Keys.{KeysAre}
use Rattle.dq_machine.proofs.Reached.{allowed_may, and_both, and_first, and_second}
use Rattle.dq_machine.specs.Admitting.{has_same}
use Rattle.dq_machine.specs.Admitting as machine
use Rattle.dq_machine.specs.Landing.{clever_refusal, has_run, literal_refusal, may_fall, may_land_at, may_say, shelf_landed, shelves_landed}
use Rattle.dq_machine.specs.Landing as landing
use Rattle.dq_machine.specs.Machine.{after, allowed, may, next}
use Rattle.dq_machine.specs.Publishing.{rows_at, stamp_in}
use Rattle.dq_machine.specs.State as state
use Rattle.dq_machine.specs.State.{Course, Landed, Fallen, Flown, Publication, Shelves, State, Work, flight_at, is_first, work_of}
use Rattle.dq_text.specs.Statements.{body}
use Rattle.dq_desk.specs.Events.{IsAnswer, IsBody, cells_landed, is_there, lands, may_land_now}
use Rattle.dq_desk.specs.Kept.{Inner, IsBodied, IsDesk, IsFlight, IsTable, course_of, flown_of, shelved_in, shelved_of}
use Rattle.dq_trial.specs.Links.{LinkTells}
use Rattle.dq_desk.proofs.Bodies.{has-body}
use Rattle.dq_desk.proofs.Caches.{all-landed, may-say, shelf-landed}
use Rattle.dq_desk.proofs.Courses.{each-ended, each-found, flown-ended, is-kept}
use Rattle.dq_desk.proofs.Kept.{HasSome, joins-same, room-less, room-some}
use Rattle.dq_desk.proofs.Pushed.{IsDesk-push, desk-reached, wrecks-same}
use Rattle.dq_desk.proofs.Sizes.{answer-length, cells-fit, rows-small, valid-columns}

pub lane-above : (lanes lane : ℕ) → is_lane lanes lane ≡ true → 0 < lane
lane-above lanes lane h =
    let above : nat_lt 0 lane ≡ true = and_first (nat_lt 0 lane) (nat_le lane lanes) h in
    grind (arith, nat_tests)

pub lane-within : (lanes lane : ℕ) → is_lane lanes lane ≡ true → lane ≤ lanes
lane-within lanes lane h =
    let within : nat_le lane lanes ≡ true = and_second (nat_lt 0 lane) (nat_le lane lanes) h in
    grind (arith, nat_tests)

some_not_none : {X : Type 0} (o : Option X) → is_some o ≡ not (is_none o)
some_not_none None = refl
some_not_none (Some x) = refl

-- the words of both caches may stand in the entry

module _ (l : LoadedFiles) (versions : List Publication) (bound : Bound) (g : Flown) (cells version now : ℕ) (key : Query) (word : Word)
    (stamp : version ≡ g.stamp) (asked : key ≡ g.key) (latest : now ≡ stamp_in versions key.source) where
  stale_is : not (nat_eq version now) ≡ not (nat_eq g.stamp (stamp_in versions g.key.source))
  stale_is = ap (λ n. not (nat_eq version n)) latest ∙ λ i. not (nat_eq (stamp i) (stamp_in versions (asked i).source))

  clever_says : bound ≡ l.script.clever → Answers (refusal (is_some key.top) (is_large bound cells) (not (nat_eq version now))) word
      → may_say (clever_refusal versions l.script.clever g cells) word ≡ true
  clever_says same h =
      let topped : is_some key.top ≡ not (is_none g.key.top) = some_not_none key.top ∙ λ i. not (is_none (asked i).top) in
      let is : refusal (is_some key.top) (is_large bound cells) (not (nat_eq version now)) ≡ clever_refusal versions l.script.clever g cells =
      λ i. refusal (topped i) (is_large (same i) cells) (stale_is i) in
      rw (← is) (may-say (refusal (is_some key.top) (is_large bound cells) (not (nat_eq version now))) word h)

  literal_says : bound ≡ l.script.literal → Answers (refusal false (is_large bound cells) (not (nat_eq version now))) word
      → may_say (literal_refusal versions l.script.literal g cells) word ≡ true
  literal_says same h =
      let is : refusal false (is_large bound cells) (not (nat_eq version now)) ≡ literal_refusal versions l.script.literal g cells =
      λ i. refusal false (is_large (same i) cells) (stale_is i) in
      rw (← is) (may-say (refusal false (is_large bound cells) (not (nat_eq version now))) word h)

module _ {L : Type 0} (tells : LinkTells L) (l : LoadedFiles) (journal : List Entry) (p : Inner L) (h : IsDesk tells l journal p) where
  abbrev s : State
  s = after l journal

  -- the lane's first own flight is there, runs, and is kept
  pub record FirstRuns (flight : ℕ) : Type 0 where
    pub held : FlightOf
    pub found : flight_of flight p.flights.flights ≡ Some held
    pub runs : flights.runs held.course ≡ true
    pub is : IsFlight s.versions held
    pub flown : flight_at s flight ≡ Some (flown_of held)
    pub number : held.number ≡ flight

  runs_told : (told : flights.Course) → machine.runs (course_of told) ≡ flights.runs told
  runs_told flights.Running = refl
  runs_told (flights.Landed table) = refl
  runs_told flights.Fallen = refl

  runs_by : (lane flight : ℕ) (o : Option Flown) → flight_at s flight ≡ o → RunsFor lane o → FirstRuns flight
  runs_by lane flight None found r = absurd r
  runs_by lane flight (Some f) found r =
      let k = is-kept s.versions s.flights p.flights p.started flight f h.agrees.flights found in
      record {
        held = k.held;
        found = k.found;
        runs = sym (runs_told k.held.course) ∙ ap (λ (g : Flown). machine.runs g.course) k.flown ∙ r.1;
        is = k.is;
        flown = found ∙ ap Some (sym k.flown);
        number = k.number;
      }

  pub first-runs : (lane flight : ℕ) → is_there s lane ≡ true → is_first (work_of s lane).own flight ≡ true → FirstRuns flight
  first-runs lane flight there first =
      runs_by lane flight (flight_at s flight) refl ((IsFlying-reached l s (desk-reached tells l journal p h)).each lane flight (lane-above (length s.works) lane there)
      (first_among (work_of s lane).own flight first))

  pub is-running : (flight : ℕ) → FirstRuns flight → IsSomeAnd (flight_of flight p.flights.flights) (λ f. flights.runs f.course ≡ true)
  is-running flight r = rw r.found r.runs

  -- a flight falls

  pub fall-runs : (lane flight : ℕ) (cause : Cause) → allowed l s (Fall lane flight cause) ≡ true → FirstRuns flight
  fall-runs lane flight cause may =
      let w = work_of s lane in
      let e : Entry = Fall lane flight cause in
      first-runs lane flight (and_first (is_there s lane) (is_first w.own flight && may_fall w.phase cause) may)
      (and_first (is_first w.own flight) (may_fall w.phase cause) (allowed_may l s e may))

  pub fall-room : (lane flight : ℕ) (cause : Cause) → allowed l s (Fall lane flight cause) ≡ true → HasSome p
  fall-room lane flight cause may =
      let e : Entry = Fall lane flight cause in room-some s (next l s e) p h.agrees.room (owed_next l s e (desk-reached tells l journal p h) may)

  pub IsDesk-fall : (lane flight spare : ℕ) (cause : Cause) (kept : FlightsOf) (journal' : List Entry) → allowed l s (Fall lane flight cause) ≡ true
      → kept.flights ≡ replaced (is_numbered flight) (ended flights.Fallen) p.flights.flights → p.flights.spare ≤ kept.spare → p.spare ≤ spare + 1
      → journal' ≡ journal ++ Fall lane flight cause ∷ [] → IsDesk tells l journal' (record p { spare = spare; owed = p.owed - 1; flights = kept })
  IsDesk-fall lane flight spare cause kept journal' may falls room fits grew =
      let a = h.agrees in
      let e : Entry = Fall lane flight cause in
      let p' : Inner L = record p { spare = spare; owed = p.owed - 1; flights = kept } in
      IsDesk-push tells l journal journal' p p' e h may grew (record {
        versions = a.versions;
        shelves = a.shelves;
        flights = record {
          flown = ap (map flown_of) falls ∙ flown-ended flights.Fallen flight p.flights.flights ∙ ap (landing.ended Fallen flight) a.flights.flown;
          started = a.flights.started;
          each = rw falls (each-ended s.versions flights.Fallen flight p.flights.flights a.flights.each
              (λ f found is. record { stamp = is.stamp; table = tt; sized = is.sized }));
        };
        joins = a.joins ∙ sym (joins-same s.works (lane - 1) _ refl);
        idle = a.idle;
        fresh = a.fresh;
        room = room-less s (next l s e) p p' a.room (owed_next l s e (desk-reached tells l journal p h) may) refl fits (omega (arith, room)) (omega arith)
            (length-set s.works (lane - 1) _) (omega arith);
      }) (wrecks-same tells l.script.fails _ p.wrecks.items h.wrecks)

  -- a flight lands

  -- what was asked of it
  pub record IsLanding (flight version : ℕ) (key : Query) (rows : Rows) : Type 0 where
    pub held : FlightOf
    pub there : flight_of flight p.flights.flights ≡ Some held
    pub found : flight_at s flight ≡ Some (flown_of held)
    pub number : flight ≡ held.number
    pub stamp : version ≡ held.stamp
    pub asked : key ≡ held.key
    pub table : rows ≡ answer held.key (rows_at s.versions held.stamp)
    pub is : IsFlight s.versions held

  pub land-runs : (lane flight : ℕ) → may_land_now s lane flight ≡ true → FirstRuns flight
  land-runs lane flight may =
      let w = work_of s lane in
      first-runs lane flight (and_first (is_there s lane) (lands w flight) may)
      (and_first (is_first w.own flight) (has_run w.phase) (and_second (is_there s lane) (lands w flight) may))

  pub land-found : (lane flight : ℕ) → may_land_now s lane flight ≡ true → flight_of flight p.flights.flights ≡ None → ⊥
  land-found lane flight may none = let r = land-runs lane flight may in let no : None ≡ Some r.held = sym none ∙ r.found in cc

  pub landing-of : (lane flight version : ℕ) (key : Query) (rows : Rows) → may_land_now s lane flight ≡ true
      → IsSomeAnd (flight_of flight p.flights.flights) (λ f. (version ≡ f.stamp) × (key ≡ f.key)) → IsAnswer s.versions (flight_at s flight) rows → IsLanding flight version key rows
  landing-of lane flight version key rows may told is =
      let r = land-runs lane flight may in
      let both : (version ≡ r.held.stamp) × (key ≡ r.held.key) = rw r.found at told in
      record {
        held = r.held;
        there = r.found;
        found = r.flown;
        number = sym r.number;
        stamp = both.0;
        asked = both.1;
        table = rw r.flown at is;
        is = r.is;
      }

  module _ (flight version : ℕ) (key : Query) (rows : Rows) (q : IsLanding flight version key rows) where
    -- its columns and cells are few
    pub land-columns : KeysAre (λ k. invalid_by l.script.schemas k ≡ None) s
        → (length key.dims + length key.measures < 2 ^ 64) × (length rows * (length key.dims + length key.measures) < 2 ^ 64)
    land-columns keys =
        let valid = each-found (λ (f : Flown). invalid_by l.script.schemas f.key ≡ None) (state.is_numbered flight) s.flights.flown (flown_of q.held) q.found keys.flights in
        let short = valid-columns l.script.schemas q.held.key valid in
        let small = rows-small l s q.held.stamp h.loaded (desk-reached tells l journal p h) in
        let few : length rows ≤ cell_room + 1 = omega (arith, small, answer-length q.held.key (rows_at s.versions q.held.stamp), ap length q.table) in
        let dims : length key.dims ≤ 64 = omega (arith, short.0, ap (λ (k : Query). length k.dims) q.asked) in
        let measures : length key.measures ≤ 512 = omega (arith, short.1, ap (λ (k : Query). length k.measures) q.asked) in
        (omega (arith, dims, measures), cells-fit (length rows) (length key.dims) (length key.measures) few dims measures)

  module _ (lane flight version cells now : ℕ) (key : Query) (rows : Rows) (may : may_land_now s lane flight ≡ true) (q : IsLanding flight version key rows)
      (counted : cells ≡ cells_of key rows) where
    abbrev g : Flown
    g = flown_of q.held

    cells_are : cells ≡ landing.cells_of s.versions g
    cells_are = counted ∙ λ i. cells_of (q.asked i) (q.table i)

    -- the entry counts them
    pub cells-landed : cells ≡ cells_landed s.versions (flight_at s flight)
    cells-landed = rw q.found cells_are

    -- it may come
    module _ (clever literal : Word) (latest : now ≡ slice_index_or p.stamps key.source 0)
        (clever_word : Answers (refusal (is_some key.top) (is_large p.clever.bound cells) (not (nat_eq version now))) clever)
        (literal_word : Answers (refusal false (is_large p.literal.bound cells) (not (nat_eq version now))) literal) where
      stands : now ≡ stamp_in s.versions key.source
      stands = latest ∙ h.agrees.versions.stamps.each key.source

      may_at : may_land_at l s.versions (Some g) cells clever literal ≡ true
      may_at =
          let a = h.agrees.shelves in
          and_both (nat_eq cells (landing.cells_of s.versions g) && may_say (clever_refusal s.versions l.script.clever g cells) clever)
          (may_say (literal_refusal s.versions l.script.literal g cells) literal)
          (and_both (nat_eq cells (landing.cells_of s.versions g)) (may_say (clever_refusal s.versions l.script.clever g cells) clever) (eq-eqb cells (landing.cells_of s.versions g) cells_are)
          (clever_says l s.versions p.clever.bound g cells version now key clever q.stamp q.asked stands a.clever_bound clever_word))
          (literal_says l s.versions p.literal.bound g cells version now key literal q.stamp q.asked stands a.literal_bound literal_word)

      pub land-allowed : allowed l s (Land lane flight cells clever literal) ≡ true
      land-allowed =
          let w = work_of s lane in
          and_both (is_there s lane) (lands w flight && may_land_at l s.versions (flight_at s flight) cells clever literal) (and_first (is_there s lane) (lands w flight) may)
          (and_both (lands w flight) (may_land_at l s.versions (flight_at s flight) cells clever literal) (and_second (is_there s lane) (lands w flight) may) (rw q.found may_at))

      pub land-room : HasSome p
      land-room =
          let e : Entry = Land lane flight cells clever literal in room-some s (next l s e) p h.agrees.room (owed_next l s e (desk-reached tells l journal p h) land-allowed)

      -- what both caches keep
      abbrev entry : EntryOf
      entry = record { flight = flight; stamp = version; key = key; weight = weight_of cells; table = rows }

      is_table : IsTable s.versions entry
      is_table = record { stamp = omega (arith, q.stamp, q.is.stamp); table = q.table ∙ λ i. answer (sym q.asked i) (rows_at s.versions (sym q.stamp i)) }

      kept_clever : (new : CleverOf) → Leaves clever p.clever.entries (trimmed (λ e. e.weight) p.clever.bound (put_front (is_same version key) entry p.clever.entries)) new.entries
          → (map shelved_of new.entries ≡ shelf_landed l.script.clever g cells clever s.shelves.clever) × AllByRecursion (IsTable s.versions) new.entries
      kept_clever new leaves =
          let a = h.agrees.shelves in
          let front : shelved_of entry ≡ record { flight = g.number; stamp = g.stamp; key = g.key; weight = weight_of cells } =
          λ i. record { flight = q.number i; stamp = q.stamp i; key = q.asked i; weight = weight_of cells } in
          let same : (y : EntryOf) → IsTable s.versions y → is_same version key y ≡ has_same g.stamp g.key (shelved_of y) =
          λ y is i. has_same (q.stamp i) (q.asked i) (shelved_of y) in (
            shelf-landed shelved_of (IsTable s.versions) (is_same version key) p.clever.bound g cells entry front same clever p.clever.entries new.entries a.clever_tables leaves
                ∙ λ i. shelf_landed (a.clever_bound i) g cells clever (a.clever i),
            all-landed shelved_of (IsTable s.versions) (is_same version key) p.clever.bound g cells entry front same clever p.clever.entries new.entries a.clever_tables is_table leaves,
          )

      abbrev bodied : Bytes → BodiedOf
      bodied text = record { entry = entry; body = text }

      kept_literal : (text : Bytes) (new : LiteralOf) → text ≡ body q.held.key
          → Leaves literal p.literal.entries (trimmed (λ e. e.entry.weight) p.literal.bound (put_front (has_body version text) (bodied text) p.literal.entries)) new.entries
          → (map shelved_in new.entries ≡ shelf_landed l.script.literal g cells literal s.shelves.literal) × AllByRecursion (IsBodied s.versions) new.entries
      kept_literal text new said leaves =
          let a = h.agrees.shelves in
          let front : shelved_in (bodied text) ≡ record { flight = g.number; stamp = g.stamp; key = g.key; weight = weight_of cells } =
          λ i. record { flight = q.number i; stamp = q.stamp i; key = q.asked i; weight = weight_of cells } in
          let same : (y : BodiedOf) → IsBodied s.versions y → has_body version text y ≡ has_same g.stamp g.key (shelved_in y) =
          λ y is. (λ i. has_body (q.stamp i) (said i) y) ∙ has-body s.versions g.stamp g.key y q.is.sized is in
          let this : IsBodied s.versions (bodied text) =
          record { table = is_table; body = said ∙ ap body (sym q.asked); sized = rw q.asked q.is.sized } in (
            shelf-landed shelved_in (IsBodied s.versions) (has_body version text) p.literal.bound g cells (bodied text) front same literal p.literal.entries new.entries a.literal_tables leaves
                ∙ λ i. shelf_landed (a.literal_bound i) g cells literal (a.literal i),
            all-landed shelved_in (IsBodied s.versions) (has_body version text) p.literal.bound g cells (bodied text) front same literal p.literal.entries new.entries a.literal_tables this leaves,
          )

      table_of : (f : FlightOf) → flight_of flight p.flights.flights ≡ Some f → rows ≡ answer f.key (rows_at s.versions f.stamp)
      table_of f found =
          let same : Some q.held ≡ Some f = sym q.there ∙ found in
          let is : q.held ≡ f = cc in
          q.table ∙ ap (λ (k : FlightOf). answer k.key (rows_at s.versions k.stamp)) is

      pub IsDesk-land : (spare : ℕ) (text : Bytes) (answers : CleverOf) (texts : LiteralOf) (kept : FlightsOf) (journal' : List Entry) → IsBody (flight_at s flight) text
          → Leaves clever p.clever.entries (trimmed (λ e. e.weight) p.clever.bound (put_front (is_same version key) entry p.clever.entries)) answers.entries
          → answers.bound ≡ p.clever.bound
          → Leaves literal p.literal.entries (trimmed (λ e. e.entry.weight) p.literal.bound (put_front (has_body version text) (bodied text) p.literal.entries)) texts.entries
          → texts.bound ≡ p.literal.bound
          → kept.flights ≡ replaced (is_numbered flight) (ended (flights.Landed rows)) p.flights.flights → p.flights.spare ≤ kept.spare → p.spare ≤ spare + 1
          → journal' ≡ journal ++ Land lane flight cells clever literal ∷ []
          → IsDesk tells l journal' (record p { spare = spare; owed = p.owed - 1; clever = answers; literal = texts; flights = kept })
      IsDesk-land spare text answers texts kept journal' is answers_leave answers_bound texts_leave texts_bound lands room fits grew =
          let a = h.agrees in
          let e : Entry = Land lane flight cells clever literal in
          let p' : Inner L = record p { spare = spare; owed = p.owed - 1; clever = answers; literal = texts; flights = kept } in
          let said : text ≡ body q.held.key = rw q.found at is in
          let in_clever = kept_clever answers answers_leave in
          let in_literal = kept_literal text texts said texts_leave in
          IsDesk-push tells l journal journal' p p' e h land-allowed grew (record {
            versions = a.versions;
            shelves = rw q.found (record {
              clever = in_clever.0;
              clever_bound = answers_bound ∙ a.shelves.clever_bound;
              clever_tables = in_clever.1;
              literal = in_literal.0;
              literal_bound = texts_bound ∙ a.shelves.literal_bound;
              literal_tables = in_literal.1;
            });
            flights = record {
              flown = ap (map flown_of) lands ∙ flown-ended (flights.Landed rows) flight p.flights.flights ∙ ap (landing.ended Landed flight) a.flights.flown;
              started = a.flights.started;
              each = rw lands (each-ended s.versions (flights.Landed rows) flight p.flights.flights a.flights.each
                  (λ f found is. record { stamp = is.stamp; table = table_of f found; sized = is.sized }));
            };
            joins = a.joins ∙ sym (joins-same s.works (lane - 1) _ refl);
            idle = a.idle;
            fresh = a.fresh;
            room = room-less s (next l s e) p p' a.room (owed_next l s e (desk-reached tells l journal p h) land-allowed) refl fits (omega (arith, room)) (omega arith)
                (length-set s.works (lane - 1) _) (omega arith);
          }) (wrecks-same tells l.script.fails _ p.wrecks.items h.wrecks)
