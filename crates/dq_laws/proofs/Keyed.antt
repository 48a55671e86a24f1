-- What holds of the queries that are asked, of the keys of their groups, and of both with their stamps, holds of all flights, joins and answers.
use Rattle.std.proofs.Common.{◌≡◌, ◌≢◌, inl, inr, ℕ, zero, suc, ◌+◌, ◌-◌, ◌<◌, Bool, true, false, not, cond, eqb, List, [], ◌∷◌, length, map, filter, get_or, slice_set, replicate, find, refl, sym, arith}
use Rattle.std.proofs.lemmas.Bool.Decides.{eqb_tells}
use Rattle.std.proofs.lemmas.List.{get_or-set_other, get_or-set_same}
use Rattle.std.specs.Prelude.{◌⊎◌, Option, Some, None, nat_eq, fold}
use Rattle.dq_base.specs.Batches.{Group, groups, roles}
use Rattle.dq_base.specs.Canonical.{canonical}
use Rattle.dq_base.specs.Headings.{Heading}
use Rattle.dq_base.specs.Scripts.{step_of, zones_of}
use Rattle.dq_base.specs.declared.bound.Bound.{Bound}
use Rattle.dq_base.specs.declared.canon.Role.{Role}
use Rattle.dq_base.specs.declared.canon.Role.TheVariants.{Remote, Local}
use Rattle.dq_base.specs.declared.kept.Kept.{Kept as Word}
use Rattle.dq_base.specs.declared.kept.Kept.TheVariants.{Kept, Topped, TooLarge, Stale, Memory}
use Rattle.dq_base.specs.declared.query.Query.{Query}
use Rattle.dq_base.specs.declared.script.Step.{Step}
use Rattle.dq_base.specs.declared.script.Step.TheVariants as step
use Rattle.dq_cache.specs.Entries.{front_or, is_over, put_front, to_front, trimmed_by, weight_of, without_first, without_last}
use Rattle.dq_extract.specs.Loads.{LoadedFiles}
use Rattle.dq_flight.specs.Flights.{replaced}
use Rattle.dq_journal.specs.Journals.{lane_of}
use Rattle.dq_journal.specs.declared.entry.Met.{Met}
use Rattle.dq_journal.specs.declared.entry.Met.TheVariants as met
use Rattle.dq_journal.specs.declared.entry.Entry.{Entry}
use Rattle.dq_journal.specs.declared.entry.Entry.TheVariants.{Publish, Admit, Lease, Give, Lose, Land, Fall, Take, End}
use Rattle.dq_machine.proofs.Reached.{allowed_above, allowed_within, reached_keeps}
use Rattle.dq_machine.specs.Admitting.{Looked, admission_of, group_flights, has_cover, has_same, joined_by, joins_of, look, looked, missed, then_look, with_joiner}
use Rattle.dq_machine.specs.Landing.{ended, over, shelf_landed, shelves_landed}
use Rattle.dq_machine.specs.Machine.{IsReached, allowed, next}
use Rattle.dq_machine.specs.Preparing.{canons_of, is_valid, remote_among, remotes_of}
use Rattle.dq_machine.specs.Publishing.{shelves_after, stamp_in}
use Rattle.dq_machine.specs.State.{Course, Landed, Fallen, Flown, Joined, Publication, Shelved, Shelves, State, Work, flight_at, is_numbered, no_work, start, work_of}
use Rattle.dq_machine.specs.Taking.{flights_taken, let_go, own_flight, without_joiner, work_taken}
use Rattle.dq_laws.specs.Keys.{KeysAre}
use Rattle.dq_laws.proofs.Each.{Each, all_each, each-append, each-drop, each-either, each-filter, each-found, each-replaced, each-take, each-weaker}

abbrev pub FlownAre : (ℕ → Query → Type 0) → List Flown → Type 0
FlownAre P flown = Each (λ (f : Flown). P f.stamp f.key) flown

abbrev pub JoinsAre : (ℕ → Query → Type 0) → List Joined → Type 0
JoinsAre P joins = Each (λ (j : Joined). P j.stamp j.query) joins

abbrev pub ShelfIs : (ℕ → Query → Type 0) → List Shelved → Type 0
ShelfIs P shelf = Each (λ (e : Shelved). P e.stamp e.key) shelf

pub record ShelvesAre (P : ℕ → Query → Type 0) (shelves : Shelves) : Type 0 where
  pub clever : ShelfIs P shelves.clever
  pub literal : ShelfIs P shelves.literal

pub record IsKeyed (P : ℕ → Query → Type 0) (works : List Work) (held : Shelves) (started : List Flown) : Type 0 where
  pub joins : (i : ℕ) → JoinsAre P (get_or works i no_work).joins
  pub shelves : ShelvesAre P held
  pub flown : FlownAre P started

there : (l : LoadedFiles) (s : State) (e : Entry) → allowed l s e ≡ true → lane_of e - 1 < length s.works
there l s e a = omega (arith, allowed_above l s e a, allowed_within l s e a)

-- the queries of a batch

module _ (R : Query → Type 0) where
  canon_kept : (schemas : List Heading) → ((q : Query) → is_valid schemas q ≡ true → R (canonical q)) → (b : Bool) (q : Query) (zones : List Query) → is_valid schemas q ≡ b
      → Each R (map canonical zones) → Each R (map canonical (cond b (q ∷ zones) zones))
  canon_kept schemas asked true q zones valid h = (asked q valid, h)
  canon_kept schemas asked false q zones valid h = h

  canons_such : (schemas : List Heading) → ((q : Query) → is_valid schemas q ≡ true → R (canonical q)) → (zones : List Query) → Each R (canons_of schemas zones)
  canons_such schemas asked [] = tt
  canons_such schemas asked (q ∷ zones) = canon_kept schemas asked (is_valid schemas q) q (filter (is_valid schemas) zones) refl (canons_such schemas asked zones)

  remote_such : (rs : List Role) (queries : List Query) → Each R queries → Each R (remote_among rs queries)
  remote_such [] queries h = tt
  remote_such (Remote ∷ rs) [] h = tt
  remote_such (Remote ∷ rs) (q ∷ queries) h = (h.0, remote_such rs queries h.1)
  remote_such (Local place ∷ rs) [] h = tt
  remote_such (Local place ∷ rs) (q ∷ queries) h = remote_such rs queries h.1

  missed_such : (found : List (Option Met)) (qs : List Query) → Each R qs → Each R (missed found qs)
  missed_such [] qs h = tt
  missed_such (Some m ∷ found) [] h = tt
  missed_such (Some m ∷ found) (q ∷ qs) h = missed_such found qs h.1
  missed_such (None ∷ found) [] h = tt
  missed_such (None ∷ found) (q ∷ qs) h = (h.0, missed_such found qs h.1)

  module _ (P : ℕ → Query → Type 0) (versions : List Publication) (stamped : (q : Query) → R q → P (stamp_in versions q.source) q) where
    joins_such : (found : List (Option Met)) (qs : List Query) → Each R qs → JoinsAre P (joins_of versions found qs)
    joins_such [] [] h = tt
    joins_such [] (q ∷ qs) h = tt
    joins_such (f ∷ found) [] h = tt
    joins_such (None ∷ found) (q ∷ qs) h = joins_such found qs h.1
    joins_such (Some (met.Hit f) ∷ found) (q ∷ qs) h = joins_such found qs h.1
    joins_such (Some (met.Literal f) ∷ found) (q ∷ qs) h = joins_such found qs h.1
    joins_such (Some (met.Group f) ∷ found) (q ∷ qs) h = joins_such found qs h.1
    joins_such (Some (met.Join f) ∷ found) (q ∷ qs) h = (stamped q h.0, joins_such found qs h.1)

    groups_such : (lane number : ℕ) (gs : List Group) → Each (λ (g : Group). R g.key) gs → FlownAre P (group_flights versions lane number gs)
    groups_such lane number [] h = tt
    groups_such lane number (g ∷ gs) h = (stamped g.key h.0, groups_such lane (number + 1) gs h.1)

module _ (P : ℕ → Query → Type 0) where
  -- flights

  joined_such : (flown : List Flown) (joins : List Joined) → FlownAre P flown → FlownAre P (joined_by flown joins)
  joined_such flown [] h = h
  joined_such flown (j ∷ joins) h =
      joined_such (replaced (is_numbered j.flight) with_joiner flown) joins
      (each-replaced (λ (f : Flown). P f.stamp f.key) (λ (f : Flown). P f.stamp f.key) (is_numbered j.flight) with_joiner (λ f p. p) (λ f p. (p, tt)) flown h)

  ended_such : (course : Course) (flight : ℕ) (flown : List Flown) → FlownAre P flown → FlownAre P (ended course flight flown)
  ended_such course flight flown h =
      each-replaced (λ (f : Flown). P f.stamp f.key) (λ (f : Flown). P f.stamp f.key) (is_numbered flight) (over course) (λ f p. p)
      (λ f p. each-either (λ (f : Flown). P f.stamp f.key) (nat_eq f.joiners 0) [] (record f { course = course } ∷ []) tt (p, tt)) flown h

  let_go_such : (flight : ℕ) (flown : List Flown) → FlownAre P flown → FlownAre P (let_go flight flown)
  let_go_such flight flown h =
      each-replaced (λ (f : Flown). P f.stamp f.key) (λ (f : Flown). P f.stamp f.key) (is_numbered flight) without_joiner (λ f p. p)
      (λ f p. each-either (λ (f : Flown). P f.stamp f.key) (nat_eq (f.joiners - 1) 0) [] (record f { joiners = f.joiners - 1 } ∷ []) tt (p, tt)) flown h

  own_such : (number lane : ℕ) (joins : List Joined) → JoinsAre P joins → FlownAre P (own_flight number lane joins)
  own_such number lane [] h = tt
  own_such number lane (j ∷ joins) h = (h.0, tt)

  -- shelves

  shelves_less : (shelves : Shelves) (o : Option Step) → ShelvesAre P shelves → ShelvesAre P (shelves_after shelves o)
  shelves_less shelves None h = h
  shelves_less shelves (Some (step.Batch zones)) h = h
  shelves_less shelves (Some (step.Publish source how file)) h = record {
    clever = each-filter (λ (e : Shelved). P e.stamp e.key) (λ e. not (nat_eq e.key.source source)) shelves.clever h.clever;
    literal = each-filter (λ (e : Shelved). P e.stamp e.key) (λ e. not (nat_eq e.key.source source)) shelves.literal h.literal;
  }

  less_such : (test : Shelved → Bool) (shelf : List Shelved) → ShelfIs P shelf → ShelfIs P (without_first test shelf)
  less_such test [] h = tt
  less_such test (e ∷ shelf) h = each-either (λ (e : Shelved). P e.stamp e.key) (test e) shelf (e ∷ without_first test shelf) h.1 (h.0, less_such test shelf h.1)

  front_such : (test : Shelved → Bool) (shelf : List Shelved) (o : Option Shelved) → find test shelf ≡ o → ShelfIs P shelf
      → ShelfIs P (front_or o (without_first test shelf) shelf)
  front_such test shelf None at h = h
  front_such test shelf (Some e) at h = (each-found (λ (e : Shelved). P e.stamp e.key) test shelf e at h, less_such test shelf h)

  to_front_such : (test : Shelved → Bool) (shelf : List Shelved) → ShelfIs P shelf → ShelfIs P (to_front test shelf)
  to_front_such test shelf h = front_such test shelf (find test shelf) refl h

  look_such : (flown : List Flown) (stamp : ℕ) (q : Query) (shelves : Shelves) (o : Option Shelved) → ShelvesAre P shelves → ShelvesAre P (look flown stamp q shelves o).shelves
  look_such flown stamp q shelves None h = record { clever = h.clever; literal = to_front_such (has_same stamp q) shelves.literal h.literal }
  look_such flown stamp q shelves (Some e) h = record { clever = to_front_such (has_cover stamp q) shelves.clever h.clever; literal = h.literal }

  looked_such : (flown : List Flown) (versions : List Publication) (before : Looked) (qs : List Query) → ShelvesAre P before.shelves
      → ShelvesAre P (fold (then_look flown versions) before qs).shelves
  looked_such flown versions before [] h = h
  looked_such flown versions before (q ∷ qs) h =
      looked_such flown versions (then_look flown versions before q) qs
      (look_such flown (stamp_in versions q.source) q before.shelves (find (has_cover (stamp_in versions q.source) q) before.shelves.clever) h)

  trimmed_such : (weight : Shelved → ℕ) (b : Bound) (k : ℕ) (shelf : List Shelved) → ShelfIs P shelf → ShelfIs P (trimmed_by weight b k shelf)
  trimmed_such weight b zero shelf h = h
  trimmed_such weight b (suc k) shelf h =
      each-either (λ (e : Shelved). P e.stamp e.key) (is_over b (map weight shelf)) (trimmed_by weight b k (without_last shelf)) shelf
      (trimmed_such weight b k (without_last shelf) (each-take (λ (e : Shelved). P e.stamp e.key) (length shelf - 1) shelf h)) h

  shelf_such : (b : Bound) (f : Flown) (cells : ℕ) (word : Word) (shelf : List Shelved) → P f.stamp f.key → ShelfIs P shelf → ShelfIs P (shelf_landed b f cells word shelf)
  shelf_such b f cells Kept shelf such h =
      let e : Shelved = record { flight = f.number; stamp = f.stamp; key = f.key; weight = weight_of cells } in
      let all : List Shelved = put_front (has_same f.stamp f.key) e shelf in
      trimmed_such (λ e. e.weight) b (length all) all (such, less_such (has_same f.stamp f.key) shelf h)
  shelf_such b f cells Topped shelf such h = h
  shelf_such b f cells TooLarge shelf such h = h
  shelf_such b f cells Stale shelf such h = h
  shelf_such b f cells Memory shelf such h = h

  landed_such : (l : LoadedFiles) (flown : List Flown) (flight : ℕ) (o : Option Flown) (cells : ℕ) (clever literal : Word) (shelves : Shelves)
      → find (is_numbered flight) flown ≡ o → FlownAre P flown → ShelvesAre P shelves → ShelvesAre P (shelves_landed l o cells clever literal shelves)
  landed_such l flown flight None cells clever literal shelves at fs h = h
  landed_such l flown flight (Some f) cells clever literal shelves at fs h =
      let such = each-found (λ (f : Flown). P f.stamp f.key) (is_numbered flight) flown f at fs in
      record {
        clever = shelf_such l.script.clever f cells clever shelves.clever such h.clever;
        literal = shelf_such l.script.literal f cells literal shelves.literal such h.literal;
      }

  -- a lane's work changes

  one_joins : (works : List Work) (i j : ℕ) (w : Work) → i < length works → JoinsAre P w.joins → JoinsAre P (get_or works j no_work).joins
      → ((eqb i j ≡ true) × (i ≡ j)) ⊎ ((eqb i j ≡ false) × (i ≢ j)) → JoinsAre P (get_or (slice_set works i w) j no_work).joins
  one_joins works i j w lt here elsewhere (inl (told, same)) = rw (← same, get_or-set_same works i w no_work lt) here
  one_joins works i j w lt here elsewhere (inr (told, apart)) = let ne : j ≢ i = λ e. apart (sym e) in rw (get_or-set_other works i j w no_work ne) elsewhere

  joins_step : (works : List Work) (i : ℕ) (w : Work) → i < length works → JoinsAre P w.joins → ((j : ℕ) → JoinsAre P (get_or works j no_work).joins)
      → (j : ℕ) → JoinsAre P (get_or (slice_set works i w) j no_work).joins
  joins_step works i w lt here all = λ j. one_joins works i j w lt here (all j) (eqb_tells i j)

  -- joins and caches stay
  kept : (works : List Work) (shelves : Shelves) (flown flown' : List Flown) (i : ℕ) (w : Work) → i < length works
      → w.joins ≡ (get_or works i no_work).joins → FlownAre P flown' → IsKeyed P works shelves flown → IsKeyed P (slice_set works i w) shelves flown'
  kept works shelves flown flown' i w lt joins fs h =
      record { joins = joins_step works i w lt (rw joins (h.joins i)) h.joins; shelves = h.shelves; flown = fs }

  take_such : (s : State) (lane flight : ℕ) (next : Option ℕ) → IsKeyed P s.works s.shelves s.flights.flown → lane - 1 < length s.works
      → IsKeyed P (slice_set s.works (lane - 1) (work_taken (work_of s lane) next)) s.shelves (flights_taken s.flights lane flight (work_of s lane).joins next).flown
  take_such s lane flight None h lt = record {
    joins = joins_step s.works (lane - 1) _ lt (each-drop (λ (j : Joined). P j.stamp j.query) (work_of s lane).joins (h.joins (lane - 1))) h.joins;
    shelves = h.shelves;
    flown = let_go_such flight s.flights.flown h.flown;
  }
  take_such s lane flight (Some number) h lt = record {
    joins = joins_step s.works (lane - 1) _ lt (each-drop (λ (j : Joined). P j.stamp j.query) (work_of s lane).joins (h.joins (lane - 1))) h.joins;
    shelves = h.shelves;
    flown = each-append (λ (f : Flown). P f.stamp f.key) (let_go flight s.flights.flown) (own_flight number lane (work_of s lane).joins)
        (let_go_such flight s.flights.flown h.flown) (own_such number lane (work_of s lane).joins (h.joins (lane - 1)));
  }

  none_yet : (k i : ℕ) → JoinsAre P (get_or (replicate k no_work) i no_work).joins
  none_yet zero zero = tt
  none_yet zero (suc i) = tt
  none_yet (suc k) zero = tt
  none_yet (suc k) (suc i) = none_yet k i

  pub IsKeyed-start : (l : LoadedFiles) → IsKeyed P (start l).works (start l).shelves (start l).flights.flown
  IsKeyed-start l = record { joins = none_yet (length l.script.lanes); shelves = record { clever = tt; literal = tt }; flown = tt }

-- what holds of each holds of all, and so does what follows from it

pub keyed_more : (P Q : ℕ → Query → Type 0) (works : List Work) (shelves : Shelves) (flown : List Flown) → ((stamp : ℕ) (q : Query) → P stamp q → Q stamp q)
    → IsKeyed P works shelves flown → IsKeyed Q works shelves flown
keyed_more P Q works shelves flown more h = record {
  joins = λ i. each-weaker (λ (j : Joined). P j.stamp j.query) (λ (j : Joined). Q j.stamp j.query) (λ j p. more j.stamp j.query p) (get_or works i no_work).joins (h.joins i);
  shelves = record {
    clever = each-weaker (λ (e : Shelved). P e.stamp e.key) (λ (e : Shelved). Q e.stamp e.key) (λ e p. more e.stamp e.key p) shelves.clever h.shelves.clever;
    literal = each-weaker (λ (e : Shelved). P e.stamp e.key) (λ (e : Shelved). Q e.stamp e.key) (λ e p. more e.stamp e.key p) shelves.literal h.shelves.literal;
  };
  flown = each-weaker (λ (f : Flown). P f.stamp f.key) (λ (f : Flown). Q f.stamp f.key) (λ f p. more f.stamp f.key p) flown h.flown;
}

pub keys_are : (R : Query → Type 0) (s : State) → IsKeyed (λ stamp q. R q) s.works s.shelves s.flights.flown → KeysAre R s
keys_are R s h = record {
  flights = all_each (λ (f : Flown). R f.key) s.flights.flown h.flown;
  joins = λ lane. all_each (λ (j : Joined). R j.query) (work_of s lane).joins (h.joins (lane - 1));
  clever = all_each (λ (e : Shelved). R e.key) s.shelves.clever h.shelves.clever;
  literal = all_each (λ (e : Shelved). R e.key) s.shelves.literal h.shelves.literal;
}

-- each entry

module _ (R : Query → Type 0) (l : LoadedFiles) (asked : (q : Query) → is_valid l.script.schemas q ≡ true → R (canonical q))
    (grouped : (qs : List Query) → Each R qs → Each (λ (g : Group). R g.key) (groups qs)) where
  module _ (P : ℕ → Query → Type 0) (s : State) (stamped : (q : Query) → R q → P (stamp_in s.versions q.source) q) where
    admit_such : (lane number : ℕ) (met : List Met) → IsKeyed P s.works s.shelves s.flights.flown → lane - 1 < length s.works
        → IsKeyed P (next l s (Admit lane number met)).works (next l s (Admit lane number met)).shelves (next l s (Admit lane number met)).flights.flown
    admit_such lane number met h lt =
        let zones : List Query = zones_of (step_of l.script.lanes lane number) in
        let qs : List Query = remotes_of l.script.schemas zones in
        let such : Each R qs = remote_such R (roles (canons_of l.script.schemas zones)) (canons_of l.script.schemas zones) (canons_such R l.script.schemas asked zones) in
        let found : List (Option Met) = (looked s.flights.flown s.versions s.shelves qs).found in
        let adm = admission_of l s lane number in
        record {
          joins = joins_step P s.works (lane - 1) _ lt (joins_such R P s.versions stamped found qs such) h.joins;
          shelves = looked_such P s.flights.flown s.versions (record { shelves = s.shelves; found = [] }) qs h.shelves;
          flown = each-append (λ (f : Flown). P f.stamp f.key) (joined_by s.flights.flown adm.joins) (group_flights s.versions lane (s.flights.started + 1) adm.groups)
              (joined_such P s.flights.flown adm.joins h.flown)
              (groups_such R P s.versions stamped lane (s.flights.started + 1) adm.groups (grouped (missed found qs) (missed_such R found qs such)));
        }

    pub IsKeyed-next : (e : Entry) → IsKeyed P s.works s.shelves s.flights.flown → allowed l s e ≡ true
        → IsKeyed P (next l s e).works (next l s e).shelves (next l s e).flights.flown
    IsKeyed-next (Publish lane number) h a =
        let same = kept P s.works s.shelves s.flights.flown s.flights.flown (lane - 1) (record (work_of s lane) { last = number }) (there l s (Publish lane number) a) refl h.flown h in
        record { joins = same.joins; shelves = shelves_less P s.shelves (step_of l.script.lanes lane number) h.shelves; flown = h.flown }
    IsKeyed-next (Admit lane number met) h a = admit_such lane number met h (there l s (Admit lane number met) a)
    IsKeyed-next (Lease lane flight link fresh) h a =
        kept P s.works s.shelves s.flights.flown s.flights.flown (lane - 1) _ (there l s (Lease lane flight link fresh) a) refl h.flown h
    IsKeyed-next (Give lane flight link ran runs calls) h a =
        kept P s.works s.shelves s.flights.flown s.flights.flown (lane - 1) _ (there l s (Give lane flight link ran runs calls) a) refl h.flown h
    IsKeyed-next (Lose lane flight link dialled ran runs calls) h a =
        kept P s.works s.shelves s.flights.flown s.flights.flown (lane - 1) _ (there l s (Lose lane flight link dialled ran runs calls) a) refl h.flown h
    IsKeyed-next (Land lane flight cells clever literal) h a =
        let same = kept P s.works s.shelves s.flights.flown (ended Landed flight s.flights.flown) (lane - 1) _ (there l s (Land lane flight cells clever literal) a) refl
        (ended_such P Landed flight s.flights.flown h.flown) h in
        record {
          joins = same.joins;
          shelves = landed_such P l s.flights.flown flight (flight_at s flight) cells clever literal s.shelves refl h.flown h.shelves;
          flown = same.flown;
        }
    IsKeyed-next (Fall lane flight cause) h a =
        kept P s.works s.shelves s.flights.flown (ended Fallen flight s.flights.flown) (lane - 1) _ (there l s (Fall lane flight cause) a) refl
        (ended_such P Fallen flight s.flights.flown h.flown) h
    IsKeyed-next (Take lane flight next) h a = take_such P s lane flight next h (there l s (Take lane flight next) a)
    IsKeyed-next (End lane) h a =
        kept P s.works s.shelves s.flights.flown s.flights.flown (lane - 1) _ (there l s (End lane) a) refl h.flown h

  pub IsKeyed-reached : (s : State) → IsReached l s → IsKeyed (λ stamp q. R q) s.works s.shelves s.flights.flown
  IsKeyed-reached s r =
      reached_keeps l (λ s. IsKeyed (λ stamp q. R q) s.works s.shelves s.flights.flown) (λ s e h a. IsKeyed-next (λ stamp q. R q) s (λ q such. such) e h a) s
      (IsKeyed-start (λ stamp q. R q) l) r
