-- A desk after an admission.
use Rattle.std.proofs.Common.{◌≡◌, ℕ, ◌+◌, ◌*◌, ◌-◌, ◌<◌, ◌≤◌, ◌^◌, true, ◌&&◌, List, [], ◌∷◌, ◌++◌, map, length, length-set, slice_set, refl, sym, ap, ◌∙◌, subst, arith}
use Rattle.std.proofs.lemmas.Bool.{eq-eqb}
use Rattle.std.proofs.lemmas.List.{length-map, map-append}
use Rattle.std.specs.Cmp.Lexicographic.{pointwise}
use Rattle.std.specs.List.{AllByRecursion, list_all}
use Rattle.std.specs.Prelude.{All, Option, None, is_none, nat_lt}
use Rattle.dq_base.specs.Batches.{Group, groups}
use Rattle.dq_base.specs.Headings.{Heading}
use Rattle.dq_base.specs.Scripts.{step_of, zones_of}
use Rattle.dq_base.specs.Validity.{invalid_by}
use Rattle.dq_base.specs.declared.query.Query.{Query}
use Rattle.dq_cache.specs.Entries.{BodiedOf, CleverOf, EntryOf, LiteralOf}
use Rattle.dq_cache.specs.declared.entry.Found.{Found}
use Rattle.dq_extract.specs.Loads.{LoadedFiles}
use Rattle.dq_flight.specs.Flights.{FlightOf, FlightsOf}
use Rattle.dq_link.specs.Views.{LostLink}
use Rattle.dq_graph.specs.declared.prepared.Prepared.{Prepared}
use Rattle.dq_journal.specs.declared.entry.Entry.{Entry}
use Rattle.dq_journal.specs.declared.entry.Entry.TheVariants.{Admit}
use Rattle.dq_journal.specs.declared.entry.Met.{Met}
use Rattle.dq_journal.specs.declared.entry.Met.TheVariants as met
use Rattle.dq_laws.proofs.Ordered.{numbered}
use Rattle.dq_laws.proofs.Owed.{owed_next}
use Rattle.dq_laws.specs.Keys.{KeysAre}
use Rattle.dq_laws.specs.Numbers.{ascends}
use Rattle.dq_machine.proofs.Admits.{admit_joiners, meet_numbers}
use Rattle.dq_machine.proofs.Misses.{few_groups, few_missed}
use Rattle.dq_machine.proofs.Reached.{allowed_above, allowed_within, and_both, and_first, and_second}
use Rattle.dq_machine.specs.Admitting.{Admission, Looked, admission, admission_of, group_flights, is_batch, joined_by, looked, meets_of, met_eq, miss_numbers, missed}
use Rattle.dq_machine.specs.Machine.{after, allowed, may_begin, work_admitted}
use Rattle.dq_machine.specs.Preparing.{is_valid, remote_among, remotes_of}
use Rattle.dq_machine.specs.State.{Flown, Joined, Publication, Shelved, Shelves, State, Work, work_of}
use Rattle.dq_text.specs.Sizes.{IsSizedQuery}
use Rattle.dq_text.specs.Statements.{body}
use Rattle.dq_desk.specs.Admissions.{AreHeld, AreStarted, AreStood, IsPrepared, StartedOf, StoodOf, may_admit_now, remotes_at}
use Rattle.dq_desk.specs.Events.{is_there}
use Rattle.dq_desk.specs.Handed.{AllHanded, AreHandedOut, IsSound, IsSoundBodied, all_filled, looked_in, shelves_in}
use Rattle.dq_desk.specs.Kept.{Inner, IsBodied, IsDesk, IsFlight, IsTable, flown_of, shelved_in, shelved_of}
use Rattle.dq_desk.specs.Links.{AreWrecks, losses}
use Rattle.dq_trial.specs.Links.{LinkTells}
use Rattle.dq_desk.specs.Roomed.{Roomed}
use Rattle.dq_desk.specs.Plans.{AllCanJoin, IsReady, all_joined, joins_by, plan_of, stamp_of, started_flights}
use Rattle.dq_desk.proofs.Along.{all_weaker}
use Rattle.dq_desk.proofs.Kept.{joins-set}
use Rattle.dq_desk.proofs.Pushed.{IsDesk-push, desk-reached, wrecks-same}
use Rattle.dq_desk.proofs.Shapes.{filled_whole, held_whole, joins_shape, looked_long, meets_long, meets_whole, miss_numbers_long, missed_shape, planned_shapes, shape}
use Rattle.dq_desk.proofs.Sources.{AreWithin, groups_within, missed_within, remotes_within}
use Rattle.dq_desk.proofs.Takeoffs.{all_below, all_both, all_mapped, are_started, are_stood, below_joined, flights_joined, flights_started, flown_joined, flown_started, plan_can}

-- it may come

met_same : (m : Met) → met_eq m m ≡ true
met_same (met.Hit n) = eq-eqb n n refl
met_same (met.Literal n) = eq-eqb n n refl
met_same (met.Join n) = eq-eqb n n refl
met_same (met.Group n) = eq-eqb n n refl

mets_same : (ms : List Met) → pointwise met_eq ms ms ≡ true
mets_same [] = refl
mets_same (m ∷ ms) = and_both (met_eq m m) (pointwise met_eq ms ms) (met_same m) (mets_same ms)

pub admit_allowed : (l : LoadedFiles) (s : State) (lane number : ℕ) (ms : List Met) → may_admit_now l s lane number ≡ true → ms ≡ (admission_of l s lane number).met
    → allowed l s (Admit lane number ms) ≡ true
admit_allowed l s lane number ms now is =
    let w = work_of s lane in
    let begins = may_begin w number && is_batch (step_of l.script.lanes lane number) in
    let P : List Met → Type 0 = λ xs. pointwise met_eq (admission_of l s lane number).met xs ≡ true in
    and_both (is_there s lane) (begins && pointwise met_eq (admission_of l s lane number).met ms) (and_first (is_there s lane) begins now)
    (and_both begins (pointwise met_eq (admission_of l s lane number).met ms) (and_second (is_there s lane) begins now) (subst P (sym is) (mets_same (admission_of l s lane number).met)))

pub admit_batch : (l : LoadedFiles) (s : State) (lane number : ℕ) → may_admit_now l s lane number ≡ true → is_batch (step_of l.script.lanes lane number) ≡ true
admit_batch l s lane number now =
    let w = work_of s lane in
    let kind = is_batch (step_of l.script.lanes lane number) in
    and_second (may_begin w number) kind (and_second (is_there s lane) (may_begin w number && kind) now)

-- what was prepared

pub remotes_are : (schemas : List Heading) (zones : List Query) (p : Prepared) (queries : List Query) → IsPrepared schemas zones p → queries ≡ remote_among p.roles p.canons
    → queries ≡ remotes_of schemas zones
remotes_are schemas zones p queries h is =
    let same : remote_among p.roles p.canons ≡ remotes_of schemas zones = λ j. remote_among (h.roles j) (h.canons j) in
    is ∙ same

pub texts_are : (schemas : List Heading) (zones : List Query) (p : Prepared) (queries : List Query) → IsPrepared schemas zones p → queries ≡ remote_among p.roles p.canons
    → p.bodies ≡ map body queries
texts_are schemas zones p queries h is = h.bodies ∙ ap (map body) (sym (remotes_are schemas zones p queries h is))

-- each answer is sound

none_valid : (schemas : List Heading) (q : Query) → invalid_by schemas q ≡ None → is_valid schemas q ≡ true
none_valid schemas q h = ap is_none h

sound_all : (schemas : List Heading) (versions : List Publication) (es : List EntryOf) → AllByRecursion (IsTable versions) es → AllByRecursion (λ e. invalid_by schemas (shelved_of e).key ≡ None) es
    → AllByRecursion (IsSound schemas versions) es
sound_all schemas versions [] tables valid = tt
sound_all schemas versions (e ∷ es) tables valid = (record { valid = none_valid schemas e.key valid.0; table = tables.0 }, sound_all schemas versions es tables.1 valid.1)

bodied_all : (schemas : List Heading) (versions : List Publication) (bs : List BodiedOf) → AllByRecursion (IsBodied versions) bs → AllByRecursion (λ b. invalid_by schemas (shelved_in b).key ≡ None) bs
    → AllByRecursion (IsSoundBodied schemas versions) bs
bodied_all schemas versions [] tables valid = tt
bodied_all schemas versions (b ∷ bs) tables valid = (record { valid = none_valid schemas b.entry.key valid.0; bodied = tables.0 }, bodied_all schemas versions bs tables.1 valid.1)

module _ {L : Type 0} (tells : LinkTells L) (l : LoadedFiles) (journal : List Entry) (p : Inner L) (h : IsDesk tells l journal p) where
  abbrev s : State
  s = after l journal

  -- more room
  pub IsDesk-room : (journal' : List Entry) (spare : ℕ) (flights' : FlightsOf) (wrecks' : Roomed (LostLink L)) → journal' ≡ journal → p.spare ≤ spare
      → flights'.flights ≡ p.flights.flights → p.flights.spare ≤ flights'.spare → wrecks'.items ≡ p.wrecks.items → p.wrecks.spare ≤ wrecks'.spare
      → IsDesk tells l journal' (record p { spare = spare; flights = flights'; wrecks = wrecks' })
  IsDesk-room journal' spare flights' wrecks' same entries flown flown_room lost lost_room =
      let a = h.agrees in
      let J : List Entry → Type 0 = λ j. IsDesk tells l j (record p { spare = spare; flights = flights'; wrecks = wrecks' }) in
      let F : List FlightOf → Type 0 = λ fs. AllByRecursion (IsFlight s.versions) fs in
      let W : List (LostLink L) → Type 0 = λ ws. AreWrecks tells l.script.fails (losses journal) ws in
      subst J (sym same) (record {
        loaded = h.loaded;
        legal = h.legal;
        agrees = record {
          versions = a.versions;
          shelves = a.shelves;
          flights = record { flown = ap (map flown_of) flown ∙ a.flights.flown; started = a.flights.started; each = subst F (sym flown) a.flights.each };
          joins = a.joins;
          idle = a.idle;
          fresh = a.fresh;
          room = record {
            owed = a.room.owed;
            entries = omega (arith, a.room.entries, entries);
            flights = omega (arith, a.room.flights, flown_room);
            wrecks = omega (arith, a.room.wrecks, lost_room);
            idle = a.room.idle;
          };
        };
        wrecks = subst W (sym lost) h.wrecks;
      })

  -- what the look-ups need
  pub clever-sound : KeysAre (λ q. invalid_by l.script.schemas q ≡ None) s → AllByRecursion (IsSound l.script.schemas s.versions) p.clever.entries
  clever-sound keys =
      let P : List Shelved → Type 0 = λ es. All (λ (e : Shelved). invalid_by l.script.schemas e.key ≡ None) es in
      sound_all l.script.schemas s.versions p.clever.entries h.agrees.shelves.clever_tables
      (all_mapped (λ (e : Shelved). invalid_by l.script.schemas e.key ≡ None) shelved_of p.clever.entries (subst P (sym h.agrees.shelves.clever) keys.clever))

  pub literal-sound : KeysAre (λ q. invalid_by l.script.schemas q ≡ None) s → AllByRecursion (IsSoundBodied l.script.schemas s.versions) p.literal.entries
  literal-sound keys =
      let P : List Shelved → Type 0 = λ es. All (λ (e : Shelved). invalid_by l.script.schemas e.key ≡ None) es in
      bodied_all l.script.schemas s.versions p.literal.entries h.agrees.shelves.literal_tables
      (all_mapped (λ (e : Shelved). invalid_by l.script.schemas e.key ≡ None) shelved_in p.literal.entries (subst P (sym h.agrees.shelves.literal) keys.literal))

  module _ (lane number : ℕ) (now : may_admit_now l s lane number ≡ true) (queries : List Query) (asked : queries ≡ remotes_at l lane number) where
    pub admit-within : AllByRecursion (λ q. q.source < length p.stands) queries
    admit-within =
        let P : List Query → Type 0 = λ qs. AreWithin (length p.stands) qs in
        let M : ℕ → Type 0 = λ most. AreWithin most (remotes_at l lane number) in
        subst P (sym asked) (subst M (sym h.agrees.versions.stands.count) (remotes_within l.script.schemas (zones_of (step_of l.script.lanes lane number))))

    pub admit-lane : lane - 1 < length p.joins
    admit-lane =
        let e : Entry = Admit lane number (admission_of l s lane number).met in
        let may = admit_allowed l s lane number (admission_of l s lane number).met now refl in
        omega (arith, allowed_above l s e may, allowed_within l s e may, ap length h.agrees.joins, length-map s.works (λ (w : Work). w.joins))

    pub admit-numbers : p.started + 1 + length queries < 2 ^ 64
    admit-numbers =
        omega (arith, h.agrees.flights.started, ap length asked, meet_numbers l s lane number h.loaded (desk-reached tells l journal p h) (admit_batch l s lane number now))

    module _ (sized : AllByRecursion IsSizedQuery queries) (otherwise : List Met) (joins : List Joined) (stood : List StoodOf) (started : List StartedOf) (keys : List Query)
        (ready : IsReady p.stamps p.stands p.started queries (plan_of p.clever.entries p.literal.entries p.flights.flights p.stamps queries)
        (groups (missed (plan_of p.clever.entries p.literal.entries p.flights.flights p.stamps queries) queries)) otherwise joins stood started keys) where
      abbrev fs : List FlightOf
      fs = p.flights.flights

      abbrev plan : List (Option Met)
      plan = plan_of p.clever.entries p.literal.entries p.flights.flights p.stamps queries

      abbrev seen : Looked
      seen = looked s.flights.flown s.versions s.shelves queries

      abbrev all : Admission
      all = admission s.versions s.flights s.shelves queries

      abbrev numbers : List ℕ
      numbers = miss_numbers (s.flights.started + 1) (groups (missed seen.found queries)) (missed seen.found queries)

      seen_is : looked_in (map flown_of fs) s.versions p.clever p.literal queries ≡ seen
      seen_is = λ j. looked (h.agrees.flights.flown j) s.versions (record { clever = h.agrees.shelves.clever j; literal = h.agrees.shelves.literal j }) queries

      plan_is : plan ≡ map shape seen.found
      plan_is =
          planned_shapes s.versions p.clever.entries p.literal.entries fs h.agrees.shelves.literal_tables p.stamps queries h.agrees.versions.stamps sized
          ∙ ap (λ (x : Looked). map shape x.found) seen_is

      misses_is : missed plan queries ≡ missed seen.found queries
      misses_is = ap (λ found. missed found queries) plan_is ∙ missed_shape seen.found queries

      groups_is : groups (missed plan queries) ≡ groups (missed seen.found queries)
      groups_is = ap groups misses_is

      numbers_is : miss_numbers (p.started + 1) (groups (missed plan queries)) (missed plan queries) ≡ numbers
      numbers_is = λ j. miss_numbers (h.agrees.flights.started j + 1) (groups_is j) (misses_is j)

      otherwise_is : otherwise ≡ meets_of (map shape seen.found) numbers
      otherwise_is =
          let both : meets_of plan (miss_numbers (p.started + 1) (groups (missed plan queries)) (missed plan queries)) ≡ meets_of (map shape seen.found) numbers = λ j. meets_of (plan_is j) (numbers_is j) in
          ready.otherwise_are ∙ both

      long : length seen.found ≡ length queries
      long = looked_long s.flights.flown s.versions s.shelves queries

      many : length numbers ≡ length (missed seen.found queries)
      many = miss_numbers_long (s.flights.started + 1) (groups (missed seen.found queries)) (missed seen.found queries)

      all_is : all ≡ admission_of l s lane number
      all_is = ap (admission s.versions s.flights s.shelves) asked

      joins_is : joins ≡ all.joins
      joins_is = ready.joins_are ∙ ap (λ found. joins_by (stamp_of p.stamps) found queries) plan_is ∙ joins_shape p.stamps s.versions seen.found queries h.agrees.versions.stamps

      keys_is : keys ≡ map (λ (g : Group). g.key) all.groups
      keys_is = ready.keys_are ∙ ap (map (λ (g : Group). g.key)) groups_is

      keys_many : length keys ≡ length all.groups
      keys_many = ap length keys_is ∙ length-map all.groups (λ (g : Group). g.key)

      -- what the steps need

      pub otherwise-long : length otherwise ≡ length queries
      otherwise-long = ap length otherwise_is ∙ meets_long seen.found queries numbers long many

      pub keys-few : length keys ≤ length queries
      keys-few = omega (arith, keys_many, few_groups (missed seen.found queries), few_missed seen.found queries)

      pub joins-can : AllCanJoin (length joins) fs joins
      joins-can =
          let order = (numbered l journal h.legal).order in
          let few = admit_joiners l s lane number h.loaded (desk-reached tells l journal p h) (admit_batch l s lane number now) in
          let as_many : length (admission_of l s lane number).joins ≡ length joins = ap length (sym (joins_is ∙ ap (λ (a : Admission). a.joins) all_is)) in
          let M : ℕ → Type 0 = λ n. All (λ (f : Flown). f.joiners + n < 2 ^ 64) s.flights.flown in
          let F : List Flown → Type 0 = λ flown. All (λ (f : Flown). f.joiners + length joins < 2 ^ 64) flown in
          let O : List Flown → Type 0 = λ flown. ascends flown ≡ true in
          let J : List Joined → Type 0 = λ js. AllCanJoin (length joins) fs js in
          subst J (sym ready.joins_are)
          (plan_can fs (length joins) (subst O (sym h.agrees.flights.flown) order)
          (all_mapped (λ (f : Flown). f.joiners + length joins < 2 ^ 64) flown_of fs (subst F (sym h.agrees.flights.flown) (subst M as_many few)))
          p.clever.entries p.literal.entries (stamp_of p.stamps) queries)

      pub keys-above : list_all (λ (f : FlightOf). nat_lt f.number (p.started + 1)) (all_joined fs joins) ≡ true
      keys-above =
          let within = (numbered l journal h.legal).within in
          let M : ℕ → Type 0 = λ n. All (λ (f : Flown). f.number ≤ n) s.flights.flown in
          let F : List Flown → Type 0 = λ flown. All (λ (f : Flown). f.number ≤ p.started) flown in
          below_joined (p.started + 1) fs joins
          ∙ all_below p.started fs (all_mapped (λ (f : Flown). f.number ≤ p.started) flown_of fs (subst F (sym h.agrees.flights.flown) (subst M (sym h.agrees.flights.started) within)))

      -- what comes out

      module _ (clever' : CleverOf) (literal' : LiteralOf) (ms : List Met) (held : List (Option Found))
          (handed : AreHandedOut l.script.schemas s.versions queries (looked_in (map flown_of fs) s.versions p.clever p.literal queries) p.clever clever' p.literal literal' otherwise ms held) where
        pub met-is : ms ≡ (admission_of l s lane number).met
        met-is =
            let both : all_filled (looked_in (map flown_of fs) s.versions p.clever p.literal queries).found otherwise ≡ all_filled seen.found (meets_of (map shape seen.found) numbers) =
            λ j. all_filled (seen_is j).found (otherwise_is j) in
            handed.met_are ∙ both ∙ filled_whole seen.found queries numbers long many ∙ ap (λ (a : Admission). a.met) all_is

        pub held-are : AreHeld l.script.schemas s.versions (remotes_at l lane number) ms held
        held-are =
            let P : Looked → Type 0 = λ x. AllHanded l.script.schemas s.versions queries x.found held in
            let own = held_whole l.script.schemas s.versions seen.found queries numbers held many (subst P seen_is handed.held_are) in
            let M : List Met → Type 0 = λ xs. AreHeld l.script.schemas s.versions queries xs held in
            let Q : List Query → Type 0 = λ qs. AreHeld l.script.schemas s.versions qs ms held in
            subst Q asked (subst M (sym (met-is ∙ ap (λ (a : Admission). a.met) (sym all_is))) own)

        pub stood-are : AreStood l.script.schemas s.versions (remotes_at l lane number) stood
        stood-are =
            let Q : List Query → Type 0 = λ qs. AreStood l.script.schemas s.versions qs stood in
            let W : List Query → Type 0 = λ qs. AreWithin (length l.script.schemas) qs in
            subst Q asked
            (are_stood l.script.schemas s.versions p.stamps p.stands h.agrees.versions.stamps h.agrees.versions.stands queries stood
            (subst W (sym asked) (remotes_within l.script.schemas (zones_of (step_of l.script.lanes lane number)))) ready.stood_are)

        pub started-are : AreStarted l.script.schemas s.versions (s.flights.started + 1) (admission_of l s lane number).groups started
        started-are =
            let W : List Query → Type 0 = λ qs. AreWithin (length l.script.schemas) qs in
            let within = subst W (sym asked) (remotes_within l.script.schemas (zones_of (step_of l.script.lanes lane number))) in
            let same : groups (missed plan queries) ≡ (admission_of l s lane number).groups = groups_is ∙ ap (λ (a : Admission). a.groups) all_is in
            let G : List Group → Type 0 = λ gs. AreStarted l.script.schemas s.versions (s.flights.started + 1) gs started in
            let N : ℕ → Type 0 = λ n. AreStarted l.script.schemas s.versions (n + 1) (groups (missed plan queries)) started in
            subst G same
            (subst N h.agrees.flights.started
            (are_started l.script.schemas s.versions p.stamps p.stands h.agrees.versions.stamps h.agrees.versions.stands (p.started + 1) (groups (missed plan queries)) started
            (groups_within (length l.script.schemas) (missed plan queries) (missed_within (length l.script.schemas) plan queries within)) ready.started_are))

        pub IsDesk-admit : (journal' : List Entry) (p' : Inner L) → AllByRecursion IsSizedQuery keys → journal' ≡ journal ++ Admit lane number ms ∷ []
            → p'.owed ≡ p.owed + 6 * length queries → p'.owed ≤ p'.spare → p'.owed ≤ p'.flights.spare → p'.owed ≤ p'.wrecks.spare
            → p'.published ≡ p.published → p'.stamps ≡ p.stamps → p'.stands ≡ p.stands → p'.joins ≡ slice_set p.joins (lane - 1) joins → p'.clever ≡ clever' → p'.literal ≡ literal'
            → p'.flights.flights ≡ all_joined fs joins ++ started_flights p.stamps lane (p.started + 1) keys → p'.started ≡ p.started + length keys
            → p'.idle ≡ p.idle → p'.fresh ≡ p.fresh → p'.wrecks.items ≡ p.wrecks.items → IsDesk tells l journal' p'
        IsDesk-admit journal' p' small grew owes entries flown_room wreck_room published stamps stands waits clever literal flown count idle fresh wrecks =
            let a = h.agrees in
            let one = admission_of l s lane number in
            let e : Entry = Admit lane number ms in
            let may = admit_allowed l s lane number ms now met-is in
            let less = owed_next l s e (desk-reached tells l journal p h) may in
            let as_many : length ms ≡ length queries = ap length met-is ∙ ap (λ (x : Admission). length x.met) (sym all_is) ∙ met_long in
            let shelves : shelves_in clever' literal' ≡ one.shelves = handed.moved.shelves ∙ ap (λ (x : Looked). x.shelves) seen_is ∙ ap (λ (x : Admission). x.shelves) all_is in
            let joins_one : joins ≡ one.joins = joins_is ∙ ap (λ (x : Admission). x.joins) all_is in
            let groups_one : all.groups ≡ one.groups = ap (λ (x : Admission). x.groups) all_is in
            let joined : map flown_of (all_joined fs joins) ≡ joined_by s.flights.flown one.joins =
            flown_joined fs joins ∙ joined_as joins one.joins joins_one in
            let begun : map flown_of (started_flights p.stamps lane (p.started + 1) keys) ≡ group_flights s.versions lane (s.flights.started + 1) one.groups =
            begun_as keys one.groups (keys_is ∙ ap (map (λ (g : Group). g.key)) groups_one) in
            let pair : map flown_of (all_joined fs joins) ++ map flown_of (started_flights p.stamps lane (p.started + 1) keys)
            ≡ joined_by s.flights.flown one.joins ++ group_flights s.versions lane (s.flights.started + 1) one.groups = λ j. joined j ++ begun j in
            IsDesk-push tells l journal journal' p p' e h may grew (record {
              versions = rw (published, stamps, stands) a.versions;
              shelves = rw (clever, literal) (record {
                clever = ap (λ (x : Shelves). x.clever) shelves;
                clever_bound = handed.moved.clever_bound ∙ a.shelves.clever_bound;
                clever_tables = all_weaker (IsSound l.script.schemas s.versions) (IsTable s.versions) (λ e is. is.table) clever'.entries handed.moved.clever_sound;
                literal = ap (λ (x : Shelves). x.literal) shelves;
                literal_bound = handed.moved.literal_bound ∙ a.shelves.literal_bound;
                literal_tables = all_weaker (IsSoundBodied l.script.schemas s.versions) (IsBodied s.versions) (λ b is. is.bodied) literal'.entries handed.moved.literal_sound;
              });
              flights = record {
                flown = ap (map flown_of) flown ∙ map-append flown_of (all_joined fs joins) (started_flights p.stamps lane (p.started + 1) keys) ∙ pair;
                started = omega (arith, count, a.flights.started, keys_many, ap length groups_one);
                each = rw flown (all_both s.versions (all_joined fs joins) (started_flights p.stamps lane (p.started + 1) keys) (flights_joined s.versions fs joins a.flights.each)
                    (flights_started s.versions p.stamps lane (p.started + 1) keys a.versions.stamps small));
              };
              joins = waits ∙ waits_as (work_admitted s (work_of s lane) number one) joins_one;
              idle = rw idle a.idle;
              fresh = fresh ∙ a.fresh;
              room = record {
                owed = omega (arith, less, owes, as_many, a.room.owed);
                entries = entries;
                flights = flown_room;
                wrecks = wreck_room;
                idle = rw idle (omega (arith, a.room.idle, length-set s.works (lane - 1) (work_admitted s (work_of s lane) number one)));
              };
            }) (rw wrecks (wrecks-same tells l.script.fails _ p.wrecks.items h.wrecks))
          where
            met_long : length (meets_of seen.found numbers) ≡ length queries
            met_long = meets_whole seen.found queries numbers long many

            joined_as : (js ks : List Joined) → js ≡ ks → joined_by (map flown_of fs) js ≡ joined_by s.flights.flown ks
            joined_as js ks e = λ j. joined_by (h.agrees.flights.flown j) (e j)

            begun_as : (keys : List Query) (gs : List Group) → keys ≡ map (λ (g : Group). g.key) gs
                → map flown_of (started_flights p.stamps lane (p.started + 1) keys) ≡ group_flights s.versions lane (s.flights.started + 1) gs
            begun_as keys gs is =
                ap (λ ks. map flown_of (started_flights p.stamps lane (p.started + 1) ks)) is
                ∙ ap (λ (n : ℕ). map flown_of (started_flights p.stamps lane (n + 1) (map (λ (g : Group). g.key) gs))) h.agrees.flights.started
                ∙ flown_started p.stamps s.versions lane (s.flights.started + 1) gs h.agrees.versions.stamps

            waits_as : (w : Work) → joins ≡ w.joins → slice_set p.joins (lane - 1) joins ≡ map (λ (v : Work). v.joins) (slice_set s.works (lane - 1) w)
            waits_as w is =
                let both : slice_set p.joins (lane - 1) joins ≡ slice_set (map (λ (v : Work). v.joins) s.works) (lane - 1) w.joins = λ j. slice_set (h.agrees.joins j) (lane - 1) (is j) in
                both ∙ sym (joins-set s.works (lane - 1) w)
