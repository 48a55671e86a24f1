-- The queries of flights and joins have few predicates.
use Rattle.std.proofs.Common.{◌≡◌, ◌≢◌, inl, inr, ℕ, zero, suc, ◌+◌, ◌-◌, ◌<◌, ◌≤◌, Bool, true, false, cond, eqb, List, [], ◌∷◌, length, map, filter, get_or, slice_set, replicate, refl, sym, arith}
use Rattle.std.proofs.lemmas.Bool.Decides.{eqb_tells}
use Rattle.std.proofs.lemmas.List.{get_or-set_other, get_or-set_same, length-map}
use Rattle.std.specs.List.{enumerate_from}
use Rattle.std.specs.Prelude.{◌⊎◌, Option, Some, None, is_none, nat_eq, not, fold, slice_get}
use Rattle.std.specs.declared.cmp.Ordering.{Ordering}
use Rattle.std.specs.declared.cmp.Ordering.TheVariants.{Less, Equal, Greater}
use Rattle.dq_base.specs.Batches.{Group, fused_key, fuses, groups_from, roles}
use Rattle.dq_base.specs.Canonical.{canonical, canonical_predicate, predicate_cmp}
use Rattle.dq_base.specs.Headings.{Heading}
use Rattle.dq_base.specs.Scripts.{step_of, zones_of}
use Rattle.dq_base.specs.Sets.{put_by, with}
use Rattle.dq_base.specs.Validity.{first_reason, reason_at}
use Rattle.dq_base.specs.declared.canon.Role.{Role}
use Rattle.dq_base.specs.declared.canon.Role.TheVariants.{Remote, Local}
use Rattle.dq_base.specs.declared.query.Query.{Query}
use Rattle.dq_extract.specs.Loads.{LoadedFiles}
use Rattle.dq_flight.specs.Flights.{replaced}
use Rattle.dq_journal.specs.Journals.{lane_of}
use Rattle.dq_journal.specs.declared.entry.Met.{Met}
use Rattle.dq_journal.specs.declared.entry.Met.TheVariants as met
use Rattle.dq_journal.specs.declared.entry.Entry.{Entry}
use Rattle.dq_journal.specs.declared.entry.Entry.TheVariants.{Publish, Admit, Lease, Give, Lose, Land, Fall, Take, End}
use Rattle.dq_link.proofs.Valid.{valid_few}
use Rattle.dq_machine.proofs.Reached.{allowed_above, allowed_within}
use Rattle.dq_machine.specs.Admitting.{admission_of, group_flights, joined_by, joins_of, looked, missed, with_joiner}
use Rattle.dq_machine.specs.Landing.{ended, over}
use Rattle.dq_machine.specs.Machine.{allowed, next}
use Rattle.dq_machine.specs.Preparing.{canons_of, is_valid, remote_among, remotes_of}
use Rattle.dq_machine.specs.State.{Course, Landed, Fallen, Flown, Joined, Publication, State, Work, is_numbered, no_work, start, work_of}
use Rattle.dq_machine.specs.Taking.{flights_taken, let_go, own_flight, without_joiner, work_taken}
use Rattle.dq_laws.proofs.Each.{Each, each-append, each-drop, each-either, each-filter, each-replaced}

abbrev pub IsBrief : Query → Type 0
IsBrief q = length q.filters ≤ 16

abbrev pub AreBriefFlown : List Flown → Type 0
AreBriefFlown flown = Each (λ (f : Flown). length f.key.filters ≤ 16) flown

abbrev pub AreBriefJoins : List Joined → Type 0
AreBriefJoins joins = Each (λ (j : Joined). length j.query.filters ≤ 16) joins

pub record AreBrief (works : List Work) (started : List Flown) : Type 0 where
  pub joins : (i : ℕ) → AreBriefJoins (get_or works i no_work).joins
  pub flown : AreBriefFlown started

-- at first

no_joins : (k i : ℕ) → AreBriefJoins (get_or (replicate k no_work) i no_work).joins
no_joins zero zero = tt
no_joins zero (suc i) = tt
no_joins (suc k) zero = tt
no_joins (suc k) (suc i) = no_joins k i

pub AreBrief-start : (l : LoadedFiles) → AreBrief (start l).works (start l).flights.flown
AreBrief-start l = record { joins = no_joins (length l.script.lanes); flown = tt }

-- canonical forms of valid queries

module _ {X : Type 0} (cmp : X → X → Ordering) where
  put_length : (o : Ordering) (x y : X) (ys more : List X) → length more ≤ suc (length ys) → length (put_by o x y ys more) ≤ suc (suc (length ys))
  put_length Less x y ys more le = omega arith
  put_length Equal x y ys more le = omega arith
  put_length Greater x y ys more le = omega arith

  with_length : (x : X) (ys : List X) → length (with cmp x ys) ≤ suc (length ys)
  with_length x [] = omega arith
  with_length x (y ∷ ys) = put_length (cmp x y) x y ys (with cmp x ys) (with_length x ys)

  set_length : (set xs : List X) → length (fold (λ s x. with cmp x s) set xs) ≤ length set + length xs
  set_length set [] = omega arith
  set_length set (x ∷ xs) = omega (arith, with_length x set, set_length (with cmp x set) xs)

canonical_brief : (q : Query) → IsBrief q → IsBrief (canonical q)
canonical_brief q h = omega (arith, h, set_length predicate_cmp [] (map canonical_predicate q.filters), length-map q.filters canonical_predicate)

none_is : {X : Type 0} (o : Option X) → is_none o ≡ true → o ≡ None
none_is None h = refl
none_is (Some x) h = cc

reason_brief : (o : Option Heading) (q : Query) → is_none (reason_at o q) ≡ true → IsBrief q
reason_brief None q h = let no : ⊥ = cc in absurd no
reason_brief (Some schema) q h = valid_few schema.sorts q (none_is (first_reason schema.sorts q) h)

one_canon : (b : Bool) (q : Query) (rest : List Query) → (b ≡ true → IsBrief q) → Each IsBrief (map canonical rest) → Each IsBrief (map canonical (cond b (q ∷ rest) rest))
one_canon true q rest here more = (canonical_brief q (here refl), more)
one_canon false q rest here more = more

canons_brief : (schemas : List Heading) (zones : List Query) → Each IsBrief (canons_of schemas zones)
canons_brief schemas [] = tt
canons_brief schemas (q ∷ zones) =
    one_canon (is_valid schemas q) q (filter (is_valid schemas) zones) (reason_brief (slice_get schemas q.source) q) (canons_brief schemas zones)

remote_brief : (rs : List Role) (qs : List Query) → Each IsBrief qs → Each IsBrief (remote_among rs qs)
remote_brief [] qs h = tt
remote_brief (Remote ∷ rs) [] h = tt
remote_brief (Remote ∷ rs) (q ∷ qs) h = (h.0, remote_brief rs qs h.1)
remote_brief (Local place ∷ rs) [] h = tt
remote_brief (Local place ∷ rs) (q ∷ qs) h = remote_brief rs qs h.1

remotes_brief : (schemas : List Heading) (zones : List Query) → Each IsBrief (remotes_of schemas zones)
remotes_brief schemas zones = remote_brief (roles (canons_of schemas zones)) (canons_of schemas zones) (canons_brief schemas zones)

-- an admission

missed_brief : (found : List (Option Met)) (qs : List Query) → Each IsBrief qs → Each IsBrief (missed found qs)
missed_brief [] qs h = tt
missed_brief (Some m ∷ found) [] h = tt
missed_brief (Some m ∷ found) (q ∷ qs) h = missed_brief found qs h.1
missed_brief (None ∷ found) [] h = tt
missed_brief (None ∷ found) (q ∷ qs) h = (h.0, missed_brief found qs h.1)

places_brief : (place : ℕ) (qs : List Query) → Each IsBrief qs → Each (λ (p : ℕ × Query). length p.1.filters ≤ 16) (enumerate_from place qs)
places_brief place [] h = tt
places_brief place (q ∷ qs) h = (h.0, places_brief (place + 1) qs h.1)

key_brief : (ps : List Query) (q : Query) → IsBrief q → IsBrief (fused_key ps q)
key_brief [] q h = h
key_brief (p ∷ ps) q h = h

groups_brief : (n : ℕ) (qs : List (ℕ × Query)) → Each (λ (p : ℕ × Query). length p.1.filters ≤ 16) qs → Each (λ (g : Group). length g.key.filters ≤ 16) (groups_from n qs)
groups_brief zero qs h = tt
groups_brief (suc n) [] h = tt
groups_brief (suc n) (q ∷ qs) h = (
  key_brief (map (λ p. p.1) (filter (λ p. fuses q.1 p.1) qs)) q.1 h.0,
  groups_brief n (filter (λ p. not (fuses q.1 p.1)) qs) (each-filter (λ (p : ℕ × Query). length p.1.filters ≤ 16) (λ p. not (fuses q.1 p.1)) qs h.1),
)

joins_brief : (versions : List Publication) (found : List (Option Met)) (qs : List Query) → Each IsBrief qs → AreBriefJoins (joins_of versions found qs)
joins_brief versions [] [] h = tt
joins_brief versions [] (q ∷ qs) h = tt
joins_brief versions (f ∷ found) [] h = tt
joins_brief versions (None ∷ found) (q ∷ qs) h = joins_brief versions found qs h.1
joins_brief versions (Some (met.Hit f) ∷ found) (q ∷ qs) h = joins_brief versions found qs h.1
joins_brief versions (Some (met.Literal f) ∷ found) (q ∷ qs) h = joins_brief versions found qs h.1
joins_brief versions (Some (met.Group f) ∷ found) (q ∷ qs) h = joins_brief versions found qs h.1
joins_brief versions (Some (met.Join f) ∷ found) (q ∷ qs) h = (h.0, joins_brief versions found qs h.1)

group_flights_brief : (versions : List Publication) (lane number : ℕ) (gs : List Group) → Each (λ (g : Group). length g.key.filters ≤ 16) gs
    → AreBriefFlown (group_flights versions lane number gs)
group_flights_brief versions lane number [] h = tt
group_flights_brief versions lane number (g ∷ gs) h = (h.0, group_flights_brief versions lane (number + 1) gs h.1)

joined_brief : (flown : List Flown) (joins : List Joined) → AreBriefFlown flown → AreBriefFlown (joined_by flown joins)
joined_brief flown [] h = h
joined_brief flown (j ∷ joins) h =
    joined_brief (replaced (is_numbered j.flight) with_joiner flown) joins
    (each-replaced (λ (f : Flown). length f.key.filters ≤ 16) (λ (f : Flown). length f.key.filters ≤ 16) (is_numbered j.flight) with_joiner (λ f p. p) (λ f p. (p, tt)) flown h)

-- a lane's work changes

one_joins : (works : List Work) (i j : ℕ) (w : Work) → i < length works → AreBriefJoins w.joins → AreBriefJoins (get_or works j no_work).joins
    → ((eqb i j ≡ true) × (i ≡ j)) ⊎ ((eqb i j ≡ false) × (i ≢ j)) → AreBriefJoins (get_or (slice_set works i w) j no_work).joins
one_joins works i j w lt here there (inl (told, same)) = rw (← same, get_or-set_same works i w no_work lt) here
one_joins works i j w lt here there (inr (told, apart)) = let ne : j ≢ i = λ e. apart (sym e) in rw (get_or-set_other works i j w no_work ne) there

brief_step : (works : List Work) (flown flown' : List Flown) (i : ℕ) (w : Work) → i < length works → AreBriefJoins w.joins → AreBriefFlown flown'
    → AreBrief works flown → AreBrief (slice_set works i w) flown'
brief_step works flown flown' i w lt here fs h = record { joins = λ j. one_joins works i j w lt here (h.joins j) (eqb_tells i j); flown = fs }

-- the flights

ended_brief : (course : Course) (flight : ℕ) (flown : List Flown) → AreBriefFlown flown → AreBriefFlown (ended course flight flown)
ended_brief course flight flown h =
    each-replaced (λ (f : Flown). length f.key.filters ≤ 16) (λ (f : Flown). length f.key.filters ≤ 16) (is_numbered flight) (over course) (λ f p. p)
    (λ f p. each-either (λ (f : Flown). length f.key.filters ≤ 16) (nat_eq f.joiners 0) [] (record f { course = course } ∷ []) tt (p, tt)) flown h

let_go_brief : (flight : ℕ) (flown : List Flown) → AreBriefFlown flown → AreBriefFlown (let_go flight flown)
let_go_brief flight flown h =
    each-replaced (λ (f : Flown). length f.key.filters ≤ 16) (λ (f : Flown). length f.key.filters ≤ 16) (is_numbered flight) without_joiner (λ f p. p)
    (λ f p. each-either (λ (f : Flown). length f.key.filters ≤ 16) (nat_eq (f.joiners - 1) 0) [] (record f { joiners = f.joiners - 1 } ∷ []) tt (p, tt)) flown h

own_brief : (number lane : ℕ) (joins : List Joined) → AreBriefJoins joins → AreBriefFlown (own_flight number lane joins)
own_brief number lane [] h = tt
own_brief number lane (j ∷ joins) h = (h.0, tt)

take_brief : (s : State) (lane flight : ℕ) (next : Option ℕ) → AreBrief s.works s.flights.flown → lane - 1 < length s.works
    → AreBrief (slice_set s.works (lane - 1) (work_taken (work_of s lane) next)) (flights_taken s.flights lane flight (work_of s lane).joins next).flown
take_brief s lane flight None h lt =
    brief_step s.works s.flights.flown _ (lane - 1) _ lt (each-drop (λ (j : Joined). length j.query.filters ≤ 16) (work_of s lane).joins (h.joins (lane - 1)))
    (let_go_brief flight s.flights.flown h.flown) h
take_brief s lane flight (Some number) h lt =
    brief_step s.works s.flights.flown _ (lane - 1) _ lt (each-drop (λ (j : Joined). length j.query.filters ≤ 16) (work_of s lane).joins (h.joins (lane - 1)))
    (each-append (λ (f : Flown). length f.key.filters ≤ 16) (let_go flight s.flights.flown) (own_flight number lane (work_of s lane).joins)
    (let_go_brief flight s.flights.flown h.flown) (own_brief number lane (work_of s lane).joins (h.joins (lane - 1)))) h

-- each entry

there : (l : LoadedFiles) (s : State) (e : Entry) → allowed l s e ≡ true → lane_of e - 1 < length s.works
there l s e a = omega (arith, allowed_above l s e a, allowed_within l s e a)

pub AreBrief-next : (l : LoadedFiles) (s : State) (e : Entry) → AreBrief s.works s.flights.flown → allowed l s e ≡ true
    → AreBrief (next l s e).works (next l s e).flights.flown
AreBrief-next l s (Publish lane number) h a =
    brief_step s.works s.flights.flown s.flights.flown (lane - 1) _ (there l s (Publish lane number) a) (h.joins (lane - 1)) h.flown h
AreBrief-next l s (Admit lane number met) h a =
    let qs : List Query = remotes_of l.script.schemas (zones_of (step_of l.script.lanes lane number)) in
    let brief : Each IsBrief qs = remotes_brief l.script.schemas (zones_of (step_of l.script.lanes lane number)) in
    let found = (looked s.flights.flown s.versions s.shelves qs).found in
    let misses : List Query = missed found qs in
    let adm = admission_of l s lane number in
    let gs = groups_brief (length misses) (enumerate_from 0 misses) (places_brief 0 misses (missed_brief found qs brief)) in
    brief_step s.works s.flights.flown _ (lane - 1) _ (there l s (Admit lane number met) a) (joins_brief s.versions found qs brief)
    (each-append (λ (f : Flown). length f.key.filters ≤ 16) (joined_by s.flights.flown adm.joins) (group_flights s.versions lane (s.flights.started + 1) adm.groups)
    (joined_brief s.flights.flown adm.joins h.flown) (group_flights_brief s.versions lane (s.flights.started + 1) adm.groups gs)) h
AreBrief-next l s (Lease lane flight link fresh) h a =
    brief_step s.works s.flights.flown s.flights.flown (lane - 1) _ (there l s (Lease lane flight link fresh) a) (h.joins (lane - 1)) h.flown h
AreBrief-next l s (Give lane flight link ran runs calls) h a =
    brief_step s.works s.flights.flown s.flights.flown (lane - 1) _ (there l s (Give lane flight link ran runs calls) a) (h.joins (lane - 1)) h.flown h
AreBrief-next l s (Lose lane flight link dialled ran runs calls) h a =
    brief_step s.works s.flights.flown s.flights.flown (lane - 1) _ (there l s (Lose lane flight link dialled ran runs calls) a) (h.joins (lane - 1)) h.flown h
AreBrief-next l s (Land lane flight cells clever literal) h a =
    brief_step s.works s.flights.flown (ended Landed flight s.flights.flown) (lane - 1) _ (there l s (Land lane flight cells clever literal) a) (h.joins (lane - 1))
    (ended_brief Landed flight s.flights.flown h.flown) h
AreBrief-next l s (Fall lane flight cause) h a =
    brief_step s.works s.flights.flown (ended Fallen flight s.flights.flown) (lane - 1) _ (there l s (Fall lane flight cause) a) (h.joins (lane - 1))
    (ended_brief Fallen flight s.flights.flown h.flown) h
AreBrief-next l s (Take lane flight next) h a = take_brief s lane flight next h (there l s (Take lane flight next) a)
AreBrief-next l s (End lane) h a =
    brief_step s.works s.flights.flown s.flights.flown (lane - 1) _ (there l s (End lane) a) (h.joins (lane - 1)) h.flown h
