-- The flight of each join is there.
use Rattle.std.proofs.Common.{◌≡◌, inl, inr, ℕ, zero, suc, ◌+◌, ◌-◌, ◌<◌, ◌≤◌, Bool, true, false, ◌&&◌, cond, eqb, List, [], ◌∷◌, ◌++◌, length, drop, get_or, slice_set, sum_by, replicate, find, refl, ap, sym, ◌∙◌, arith}
use Rattle.std.proofs.lemmas.Bool.{eqb-true, eq-eqb}
use Rattle.std.proofs.lemmas.List.Folds.{sum_by-replicate}
use Rattle.std.proofs.lemmas.List.Sums.{sum_by-cons, sum_by-set}
use Rattle.std.specs.Prelude.{◌⊎◌, Option, Some, None, is_none, nat_eq, fold, if◌then◌else◌}
use Rattle.dq_base.specs.Batches.{Group}
use Rattle.dq_base.specs.Scripts.{step_of, zones_of}
use Rattle.dq_base.specs.declared.query.Query.{Query}
use Rattle.dq_extract.specs.Loads.{LoadedFiles}
use Rattle.dq_flight.specs.Flights.{replaced}
use Rattle.dq_journal.specs.Journals.{lane_of}
use Rattle.dq_journal.specs.declared.entry.Met.{Met}
use Rattle.dq_journal.specs.declared.entry.Met.TheVariants as met
use Rattle.dq_journal.specs.declared.entry.Entry.{Entry}
use Rattle.dq_journal.specs.declared.entry.Entry.TheVariants.{Publish, Admit, Lease, Give, Lose, Land, Fall, Take, End}
use Rattle.dq_machine.proofs.Reached.{allowed_above, allowed_may, allowed_within, and_first, and_second, reached_keeps}
use Rattle.dq_machine.specs.Admitting.{Looked, admission_of, group_flights, has_cover, has_same, joined_by, joins_of, look, look_literal, looked, may_join, met_flight, then_look, with_joiner}
use Rattle.dq_machine.specs.Landing.{ended, over}
use Rattle.dq_machine.specs.Machine.{IsReached, allowed, next, work_admitted}
use Rattle.dq_machine.specs.Preparing.{remotes_of}
use Rattle.dq_machine.specs.Publishing.{stamp_in}
use Rattle.dq_machine.specs.State.{Course, Landed, Fallen, Flown, Joined, Publication, Shelved, Shelves, State, Work, flight_at, is_free, is_numbered, no_work, none_left, start, work_of}
use Rattle.dq_machine.specs.Taking.{flights_taken, is_first_join, let_go, may_take, own_flight, takes_as, without_joiner, work_taken}
use Rattle.dq_laws.proofs.Each.{Each, each-append}
use Rattle.dq_laws.proofs.Owned.{admit_free, free_joins}

-- how many of the joins are for the flight
abbrev pub waiting : ℕ → List Joined → ℕ
waiting n [] = 0
waiting n (j ∷ joins) = cond (nat_eq j.flight n) 1 0 + waiting n joins

abbrev pub all_waiting : ℕ → List Work → ℕ
all_waiting n works = sum_by (λ w. waiting n w.joins) works

-- how many the flight counts
abbrev pub joiners_of : ℕ → List Flown → ℕ
joiners_of n [] = 0
joiners_of n (f ∷ flown) = cond (nat_eq f.number n) f.joiners (joiners_of n flown)

-- no more joins are for a flight than it counts
pub record IsCounted (works : List Work) (flown : List Flown) : Type 0 where
  pub each : (n : ℕ) → all_waiting n works ≤ joiners_of n flown

abbrev There : ℕ → List Flown → Type 0
There n [] = ⊥
There n (f ∷ flown) = (f.number ≡ n) ⊎ There n flown

IsCounted-start : (l : LoadedFiles) → IsCounted (start l).works (start l).flights.flown
IsCounted-start l = record { each = λ n. let none = sum_by-replicate (λ (w : Work). waiting n w.joins) (length l.script.lanes) no_work in omega (arith, none) }

counted_step : (works : List Work) (flown flown' : List Flown) (i : ℕ) (w : Work) → i < length works
    → ((n : ℕ) → waiting n w.joins + joiners_of n flown ≤ waiting n (get_or works i no_work).joins + joiners_of n flown')
    → IsCounted works flown → IsCounted (slice_set works i w) flown'
counted_step works flown flown' i w lt less h = record {
  each = λ n. let a = less n in let b = h.each n in let c = sum_by-set (λ (v : Work). waiting n v.joins) works i w no_work lt in omega (arith, a, b, c);
}

counted_kept : (works : List Work) (flown flown' : List Flown) (i : ℕ) (w : Work) → i < length works → w.joins ≡ (get_or works i no_work).joins
    → ((n : ℕ) → joiners_of n flown ≤ joiners_of n flown') → IsCounted works flown → IsCounted (slice_set works i w) flown'
counted_kept works flown flown' i w lt same less h =
    counted_step works flown flown' i w lt (λ n. let e = ap (waiting n) same in let a = less n in omega (arith, e, a)) h

-- flights replaced

cond_less : (b : Bool) (x y x' y' d : ℕ) → x ≤ x' + d → y ≤ y' + d → cond b x y ≤ cond b x' y' + d
cond_less true x y x' y' d here there = here
cond_less false x y x' y' d here there = there

cond_within : (b : Bool) (x y z : ℕ) → x ≤ z → y ≤ z → cond b x y ≤ z
cond_within true x y z here there = here
cond_within false x y z here there = there

module _ (number : ℕ) (g : Flown → List Flown) (n d : ℕ)
    (item : (f : Flown) (rest : List Flown) → f.number ≡ number → joiners_of n (f ∷ rest) ≤ joiners_of n (g f ++ rest) + d) where
  one_less : (b : Bool) (f : Flown) (flown rest : List Flown) → is_numbered number f ≡ b → joiners_of n flown ≤ joiners_of n rest + d
      → joiners_of n (f ∷ flown) ≤ joiners_of n (if b then g f ++ flown else f ∷ rest) + d
  one_less true f flown rest is more = item f flown (eqb-true f.number number is)
  one_less false f flown rest is more = cond_less (nat_eq f.number n) f.joiners (joiners_of n flown) f.joiners (joiners_of n rest) d (omega arith) more

  replaced_less : (flown : List Flown) → joiners_of n flown ≤ joiners_of n (replaced (is_numbered number) g flown) + d
  replaced_less [] = omega arith
  replaced_less (f ∷ flown) = one_less (is_numbered number f) f flown (replaced (is_numbered number) g flown) refl (replaced_less flown)

over_by : (n : ℕ) (course : Course) (f : Flown) (rest : List Flown) (b : Bool) → nat_eq f.joiners 0 ≡ b
    → joiners_of n (f ∷ rest) ≤ joiners_of n ((if b then [] else record f { course = course } ∷ []) ++ rest) + 0
over_by n course f rest true none = let e = eqb-true f.joiners 0 none in cond_within (nat_eq f.number n) f.joiners (joiners_of n rest) _ (omega (arith, e)) (omega arith)
over_by n course f rest false some = omega arith

ended_less : (n : ℕ) (course : Course) (flight : ℕ) (flown : List Flown) → joiners_of n flown ≤ joiners_of n (ended course flight flown)
ended_less n course flight flown =
    let a = replaced_less flight (over course) n 0 (λ f rest is. over_by n course f rest (nat_eq f.joiners 0) refl) flown in omega (arith, a)

less_by : (n : ℕ) (f : Flown) (rest : List Flown) (b c : Bool) → nat_eq f.number n ≡ b → nat_eq (f.joiners - 1) 0 ≡ c
    → cond b f.joiners (joiners_of n rest) ≤ joiners_of n ((if c then [] else record f { joiners = f.joiners - 1 } ∷ []) ++ rest) + cond b 1 0
less_by n f rest true true is none = let e = eqb-true (f.joiners - 1) 0 none in omega (arith, e)
less_by n f rest true false is some = rw is (omega arith)
less_by n f rest false true is none = omega arith
less_by n f rest false false is some = rw is (omega arith)

let_go_less : (n flight : ℕ) (flown : List Flown) → joiners_of n flown ≤ joiners_of n (let_go flight flown) + cond (nat_eq flight n) 1 0
let_go_less n flight flown =
    replaced_less flight without_joiner n (cond (nat_eq flight n) 1 0)
    (λ f rest is. rw (← is) (less_by n f rest (nat_eq f.number n) (nat_eq (f.joiners - 1) 0) refl refl)) flown

append_less : (n : ℕ) (xs ys : List Flown) → joiners_of n xs ≤ joiners_of n (xs ++ ys)
append_less n [] ys = omega arith
append_less n (x ∷ xs) ys =
    let a = append_less n xs ys in
    let b = cond_less (nat_eq x.number n) x.joiners (joiners_of n xs) x.joiners (joiners_of n (xs ++ ys)) 0 (omega arith) (omega (arith, a)) in omega (arith, b)

-- joins

there_by : (m : ℕ) (b : Bool) (f : Flown) (flown rest : List Flown) → (f.number ≡ m) ⊎ There m flown → (There m flown → There m rest)
    → There m (if b then with_joiner f ++ flown else f ∷ rest)
there_by m true f flown rest h more = h
there_by m false f flown rest (inl e) more = inl e
there_by m false f flown rest (inr h) more = inr (more h)

there_joined : (p : Flown → Bool) (m : ℕ) (flown : List Flown) → There m flown → There m (replaced p with_joiner flown)
there_joined p m [] h = h
there_joined p m (f ∷ flown) h = there_by m (p f) f flown (replaced p with_joiner flown) h (there_joined p m flown)

cond_more : (b : Bool) (x y k : ℕ) → cond b x y + cond b k 0 ≤ cond b (x + k) y
cond_more true x y k = omega arith
cond_more false x y k = omega arith

cond_plus : (b : Bool) (x y y' d : ℕ) → (b ≡ true → d ≡ 0) → y + d ≤ y' → cond b x y + d ≤ cond b x y'
cond_plus true x y y' d none more = let e = none refl in omega (arith, e)
cond_plus false x y y' d none more = more

apart_by : (m n k : ℕ) (b : Bool) → nat_eq m n ≡ b → eqb k m ≡ false → nat_eq k n ≡ true → ◌≡◌ {A = ℕ} (cond b 1 0) 0
apart_by m n k true e ne is =
    let a = eqb-true m n e in
    let b = eqb-true k n is in
    let told : eqb k m ≡ true = eq-eqb k m (b ∙ sym a) in
    let no : ⊥ = cc in absurd no
apart_by m n k false e ne is = refl

not_self : (m : ℕ) → eqb m m ≡ false → ⊥
not_self m e = let told : eqb m m ≡ true = eq-eqb m m refl in cc

apart_cond : (m n k : ℕ) → eqb k m ≡ false → nat_eq k n ≡ true → ◌≡◌ {A = ℕ} (cond (nat_eq m n) 1 0) 0
apart_cond m n k ne is = apart_by m n k (nat_eq m n) refl ne is

joined_by_one : (n m : ℕ) (b : Bool) (f : Flown) (flown rest : List Flown) → is_numbered m f ≡ b → (f.number ≡ m) ⊎ There m flown
    → (There m flown → joiners_of n flown + cond (nat_eq m n) 1 0 ≤ joiners_of n rest)
    → joiners_of n (f ∷ flown) + cond (nat_eq m n) 1 0 ≤ joiners_of n (if b then with_joiner f ++ flown else f ∷ rest)
joined_by_one n m true f flown rest is h more = rw (← eqb-true f.number m is) (cond_more (nat_eq f.number n) f.joiners (joiners_of n flown) 1)
joined_by_one n m false f flown rest is (inl e) more = let told = rw e at is in absurd (not_self m told)
joined_by_one n m false f flown rest is (inr h) more =
    cond_plus (nat_eq f.number n) f.joiners (joiners_of n flown) (joiners_of n rest) (cond (nat_eq m n) 1 0) (apart_cond m n f.number is) (more h)

joined_more : (n m : ℕ) (flown : List Flown) → There m flown → joiners_of n flown + cond (nat_eq m n) 1 0 ≤ joiners_of n (replaced (is_numbered m) with_joiner flown)
joined_more n m [] h = absurd h
joined_more n m (f ∷ flown) h = joined_by_one n m (is_numbered m f) f flown (replaced (is_numbered m) with_joiner flown) refl h (joined_more n m flown)

each_there : (p : Flown → Bool) (flown : List Flown) (joins : List Joined) → Each (λ (j : Joined). There j.flight flown) joins
    → Each (λ (j : Joined). There j.flight (replaced p with_joiner flown)) joins
each_there p flown [] h = tt
each_there p flown (j ∷ joins) h = (there_joined p j.flight flown h.0, each_there p flown joins h.1)

all_joined : (n : ℕ) (flown : List Flown) (joins : List Joined) → Each (λ (j : Joined). There j.flight flown) joins
    → waiting n joins + joiners_of n flown ≤ joiners_of n (joined_by flown joins)
all_joined n flown [] h = omega arith
all_joined n flown (j ∷ joins) h =
    let one = joined_more n j.flight flown h.0 in
    let rest = all_joined n (replaced (is_numbered j.flight) with_joiner flown) joins (each_there (is_numbered j.flight) flown joins h.1) in
    omega (arith, one, rest)

-- what a batch meets

abbrev MetThere : List Flown → Option Met → Type 0
MetThere flown None = Unit {0}
MetThere flown (Some (met.Hit f)) = Unit {0}
MetThere flown (Some (met.Literal f)) = Unit {0}
MetThere flown (Some (met.Join f)) = There f flown
MetThere flown (Some (met.Group f)) = Unit {0}

find_by : (b : Bool) (x y : Flown) (o : Option Flown) (flown : List Flown) → cond b (Some x) o ≡ Some y → (o ≡ Some y → There y.number flown) → There y.number (x ∷ flown)
find_by true x y o flown e more = let same : x ≡ y = cc in inl (ap (λ (f : Flown). f.number) same)
find_by false x y o flown e more = inr (more e)

find_there : (p : Flown → Bool) (flown : List Flown) (f : Flown) → find p flown ≡ Some f → There f.number flown
find_there p [] f e = let no : ⊥ = cc in absurd no
find_there p (x ∷ flown) f e = find_by (p x) x f (find p flown) flown e (find_there p flown f)

flight_there : (p : Flown → Bool) (flown : List Flown) (o : Option Flown) → find p flown ≡ o → MetThere flown (met_flight o)
flight_there p flown None at = tt
flight_there p flown (Some f) at = find_there p flown f at

literal_there : (flown : List Flown) (stamp : ℕ) (q : Query) (o : Option Shelved) → MetThere flown (look_literal flown stamp q o)
literal_there flown stamp q None = flight_there (may_join stamp q) flown (find (may_join stamp q) flown) refl
literal_there flown stamp q (Some e) = tt

look_there : (flown : List Flown) (stamp : ℕ) (q : Query) (shelves : Shelves) (o : Option Shelved) → Each (MetThere flown) (look flown stamp q shelves o).found
look_there flown stamp q shelves None = (literal_there flown stamp q (find (has_same stamp q) shelves.literal), tt)
look_there flown stamp q shelves (Some e) = (tt, tt)

looked_there : (flown : List Flown) (versions : List Publication) (before : Looked) (qs : List Query) → Each (MetThere flown) before.found
    → Each (MetThere flown) (fold (then_look flown versions) before qs).found
looked_there flown versions before [] h = h
looked_there flown versions before (q ∷ qs) h =
    let stamp : ℕ = stamp_in versions q.source in
    let o : Option Shelved = find (has_cover stamp q) before.shelves.clever in
    looked_there flown versions (then_look flown versions before q) qs
    (each-append (MetThere flown) before.found (look flown stamp q before.shelves o).found h (look_there flown stamp q before.shelves o))

joins_there : (flown : List Flown) (versions : List Publication) (found : List (Option Met)) (qs : List Query) → Each (MetThere flown) found
    → Each (λ (j : Joined). There j.flight flown) (joins_of versions found qs)
joins_there flown versions [] [] h = tt
joins_there flown versions [] (q ∷ qs) h = tt
joins_there flown versions (f ∷ found) [] h = tt
joins_there flown versions (None ∷ found) (q ∷ qs) h = joins_there flown versions found qs h.1
joins_there flown versions (Some (met.Hit f) ∷ found) (q ∷ qs) h = joins_there flown versions found qs h.1
joins_there flown versions (Some (met.Literal f) ∷ found) (q ∷ qs) h = joins_there flown versions found qs h.1
joins_there flown versions (Some (met.Group f) ∷ found) (q ∷ qs) h = joins_there flown versions found qs h.1
joins_there flown versions (Some (met.Join f) ∷ found) (q ∷ qs) h = (h.0, joins_there flown versions found qs h.1)

-- each entry

there : (l : LoadedFiles) (s : State) (e : Entry) → allowed l s e ≡ true → lane_of e - 1 < length s.works
there l s e a = omega (arith, allowed_above l s e a, allowed_within l s e a)

dropped : (n flight : ℕ) (joins : List Joined) → is_first_join joins flight ≡ true → waiting n (drop 1 joins) + cond (nat_eq flight n) 1 0 ≡ waiting n joins
dropped n flight [] first = let no : ⊥ = cc in absurd no
dropped n flight (j ∷ joins) first = let e = eqb-true j.flight flight first in rw (← e) (omega arith)

take_counted : (s : State) (lane flight : ℕ) (next : Option ℕ) → lane - 1 < length s.works → may_take s (work_of s lane) flight next ≡ true → IsCounted s.works s.flights.flown
    → IsCounted (slice_set s.works (lane - 1) (work_taken (work_of s lane) next)) (flights_taken s.flights lane flight (work_of s lane).joins next).flown
take_counted s lane flight None lt may h =
    let v : Work = work_of s lane in
    let first = and_second (none_left v.own) (is_first_join v.joins flight) (and_first (none_left v.own && is_first_join v.joins flight) (takes_as s.flights.started (flight_at s flight) None) may) in
    counted_step s.works s.flights.flown (let_go flight s.flights.flown) (lane - 1) (work_taken v None) lt
    (λ n. let a = dropped n flight v.joins first in let b = let_go_less n flight s.flights.flown in omega (arith, a, b)) h
take_counted s lane flight (Some number) lt may h =
    let v : Work = work_of s lane in
    let first = and_second (none_left v.own) (is_first_join v.joins flight) (and_first (none_left v.own && is_first_join v.joins flight) (takes_as s.flights.started (flight_at s flight) (Some number)) may) in
    counted_step s.works s.flights.flown (let_go flight s.flights.flown ++ own_flight number lane v.joins) (lane - 1) (work_taken v (Some number)) lt
    (λ n. let a = dropped n flight v.joins first in
    let b = let_go_less n flight s.flights.flown in
    let c = append_less n (let_go flight s.flights.flown) (own_flight number lane v.joins) in omega (arith, a, b, c)) h

same : (flown : List Flown) (n : ℕ) → joiners_of n flown ≤ joiners_of n flown
same flown n = omega arith

IsCounted-next : (l : LoadedFiles) (s : State) (e : Entry) → IsCounted s.works s.flights.flown → allowed l s e ≡ true → IsCounted (next l s e).works (next l s e).flights.flown
IsCounted-next l s (Publish lane number) h a =
    counted_kept s.works s.flights.flown s.flights.flown (lane - 1) _ (there l s (Publish lane number) a) refl (same s.flights.flown) h
IsCounted-next l s (Admit lane number met) h a =
    let e : Entry = Admit lane number met in
    let adm = admission_of l s lane number in
    let qs : List Query = remotes_of l.script.schemas (zones_of (step_of l.script.lanes lane number)) in
    let free = admit_free l s (work_of s lane) lane number met (allowed_may l s e a) in
    let joins : Each (λ (j : Joined). There j.flight s.flights.flown) adm.joins =
    joins_there s.flights.flown s.versions (looked s.flights.flown s.versions s.shelves qs).found qs
    (looked_there s.flights.flown s.versions (record { shelves = s.shelves; found = [] }) qs tt) in
    counted_step s.works s.flights.flown (joined_by s.flights.flown adm.joins ++ group_flights s.versions lane (s.flights.started + 1) adm.groups) (lane - 1)
    (work_admitted s (work_of s lane) number adm) (there l s e a)
    (λ n. let none = ap (waiting n) (free_joins (work_of s lane) free) in let b = all_joined n s.flights.flown adm.joins joins in
    let c = append_less n (joined_by s.flights.flown adm.joins) (group_flights s.versions lane (s.flights.started + 1) adm.groups) in omega (arith, none, b, c)) h
IsCounted-next l s (Lease lane flight link fresh) h a =
    counted_kept s.works s.flights.flown s.flights.flown (lane - 1) _ (there l s (Lease lane flight link fresh) a) refl (same s.flights.flown) h
IsCounted-next l s (Give lane flight link ran runs calls) h a =
    counted_kept s.works s.flights.flown s.flights.flown (lane - 1) _ (there l s (Give lane flight link ran runs calls) a) refl (same s.flights.flown) h
IsCounted-next l s (Lose lane flight link dialled ran runs calls) h a =
    counted_kept s.works s.flights.flown s.flights.flown (lane - 1) _ (there l s (Lose lane flight link dialled ran runs calls) a) refl (same s.flights.flown) h
IsCounted-next l s (Land lane flight cells clever literal) h a =
    counted_kept s.works s.flights.flown (ended Landed flight s.flights.flown) (lane - 1) _ (there l s (Land lane flight cells clever literal) a) refl
    (λ n. ended_less n Landed flight s.flights.flown) h
IsCounted-next l s (Fall lane flight cause) h a =
    counted_kept s.works s.flights.flown (ended Fallen flight s.flights.flown) (lane - 1) _ (there l s (Fall lane flight cause) a) refl
    (λ n. ended_less n Fallen flight s.flights.flown) h
IsCounted-next l s (Take lane flight next) h a = take_counted s lane flight next (there l s (Take lane flight next) a) (allowed_may l s (Take lane flight next) a) h
IsCounted-next l s (End lane) h a =
    counted_kept s.works s.flights.flown s.flights.flown (lane - 1) _ (there l s (End lane) a) refl (same s.flights.flown) h

pub IsCounted-reached : (l : LoadedFiles) (s : State) → IsReached l s → IsCounted s.works s.flights.flown
IsCounted-reached l s r = reached_keeps l (λ s. IsCounted s.works s.flights.flown) (λ s e h a. IsCounted-next l s e h a) s (IsCounted-start l) r

-- what that comes to

within_all : (n : ℕ) (works : List Work) (i : ℕ) → waiting n (get_or works i no_work).joins ≤ all_waiting n works
within_all n [] zero = omega arith
within_all n [] (suc i) = omega arith
within_all n (w ∷ works) zero = let a = sum_by-cons (λ (v : Work). waiting n v.joins) w works in omega (arith, a)
within_all n (w ∷ works) (suc i) = let a = sum_by-cons (λ (v : Work). waiting n v.joins) w works in let b = within_all n works i in omega (arith, a, b)

found_step : (b : Bool) (f : Flown) (x y : ℕ) (o : Option Flown) → 0 < cond b x y → (0 < y → is_none o ≡ false) → is_none (cond b (Some f) o) ≡ false
found_step true f x y o some more = refl
found_step false f x y o some more = more some

found_by : (n : ℕ) (flown : List Flown) → 0 < joiners_of n flown → is_none (find (is_numbered n) flown) ≡ false
found_by n [] some = absurd (omega arith)
found_by n (f ∷ flown) some = found_step (nat_eq f.number n) f f.joiners (joiners_of n flown) (find (is_numbered n) flown) some (found_by n flown)

each_found : (flown : List Flown) (joins : List Joined) → ((n : ℕ) → waiting n joins ≤ joiners_of n flown) → Each (λ (j : Joined). is_none (find (is_numbered j.flight) flown) ≡ false) joins
each_found flown [] less = tt
each_found flown (j ∷ joins) less =
    let mine : eqb j.flight j.flight ≡ true = eq-eqb j.flight j.flight refl in
    let one : 1 + waiting j.flight joins ≤ joiners_of j.flight flown = rw mine at (less j.flight) in
    (found_by j.flight flown (omega (arith, one)), each_found flown joins (λ n. let a = less n in omega (arith, a)))

pub joins_found : (l : LoadedFiles) (s : State) (i : ℕ) → IsReached l s → Each (λ (j : Joined). is_none (flight_at s j.flight) ≡ false) (get_or s.works i no_work).joins
joins_found l s i r =
    each_found s.flights.flown (get_or s.works i no_work).joins
    (λ n. let a = (IsCounted-reached l s r).each n in let b = within_all n s.works i in omega (arith, a, b))
