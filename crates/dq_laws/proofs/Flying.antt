-- The own flights of a lane stand among the flights, and other lanes' entries leave them there.
use Rattle.std.proofs.Common.{◌≡◌, ◌≢◌, inl, inr, ℕ, ◌+◌, ◌-◌, ◌<◌, ◌≤◌, Bool, true, false, ◌&&◌, cond, eqb, List, [], ◌∷◌, ◌++◌, length, drop, get_or, find, refl, ap, sym, ◌∙◌, arith}
use Rattle.std.proofs.lemmas.Bool.{eqb-true, eq-eqb}
use Rattle.std.proofs.lemmas.Bool.Decides.{eqb_tells, nat_tests}
use Rattle.std.proofs.lemmas.List.{get_or-set_other, get_or-set_same}
use Rattle.std.specs.Prelude.{◌⊎◌, Option, Some, None, nat_eq, if◌then◌else◌}
use Rattle.dq_base.specs.Batches.{Group}
use Rattle.dq_extract.specs.Loads.{LoadedFiles}
use Rattle.dq_flight.specs.Flights.{replaced}
use Rattle.dq_journal.specs.Journals.{lane_of}
use Rattle.dq_journal.specs.declared.entry.Entry.{Entry}
use Rattle.dq_journal.specs.declared.entry.Entry.TheVariants.{Publish, Admit, Lease, Give, Lose, Land, Fall, Take, End}
use Rattle.dq_machine.proofs.Reached.{IsReached-next, IsReached-start, allowed_above, allowed_may, allowed_within, and_first, and_second, reached_keeps}
use Rattle.dq_machine.specs.Admitting.{admission_of, group_flights, joined_by, numbers_from, runs, with_joiner}
use Rattle.dq_machine.specs.Landing.{ended, has_run, may_fall, may_land_at, over}
use Rattle.dq_machine.specs.Machine.{IsReached, after, allowed, legal, next, run, work_by}
use Rattle.dq_machine.specs.State.{Course, Running, Landed, Fallen, Flown, Joined, Publication, State, Work, flight_at, is_first, is_numbered, no_work, none_left, start, work_of}
use Rattle.dq_machine.specs.Taking.{flights_taken, is_first_join, let_go, may_take, own_flight, takes_as, takes_course, without_joiner, work_taken}
use Rattle.dq_laws.specs.Flying.{AreRunning, RunsFor, StaysAt, StaysOf}
use Rattle.dq_laws.proofs.Each.{Each, all_each, each-either, each-weaker}
use Rattle.dq_laws.proofs.Goes.{legal_reached}
use Rattle.dq_laws.proofs.Losing.{AreApart, IsLosing-after, Rises, above_among, drop_among, first_among, no_own, numbers_among}
use Rattle.dq_laws.proofs.Numbered.{Ascend, ascend-joined, ascend-let_go, ascend-numbers}
use Rattle.dq_laws.proofs.Owned.{Among, IsOwned-reached, next_of}

-- what stays

stays : (f : Flown) → StaysOf f f
stays f = record { number = refl; lane = refl; stamp = refl; key = refl; course = refl }

stays_more : (f g h : Flown) → StaysOf f g → StaysOf g h → StaysOf f h
stays_more f g h a b = record {
  number = b.number ∙ a.number;
  lane = b.lane ∙ a.lane;
  stamp = b.stamp ∙ a.stamp;
  key = b.key ∙ a.key;
  course = b.course ∙ a.course;
}

pub here_stays : (lane : ℕ) (o : Option Flown) → RunsFor lane o → StaysAt o o
here_stays lane None r = r
here_stays lane (Some f) r = stays f

pub stays_both : (o p q : Option Flown) → StaysAt o p → StaysAt p q → StaysAt o q
stays_both None p q a b = a
stays_both (Some f) None q a b = absurd a
stays_both (Some f) (Some g) None a b = b
stays_both (Some f) (Some g) (Some h) a b = stays_more f g h a b

still_runs : (lane : ℕ) (o p : Option Flown) → RunsFor lane o → StaysAt o p → RunsFor lane p
still_runs lane None p r a = absurd r
still_runs lane (Some f) None r a = a
still_runs lane (Some f) (Some g) r a = (a.lane ∙ r.0, ap runs a.course ∙ r.1)

-- a flight is found behind others

other_number : (m n : ℕ) → m ≢ n → eqb m n ≡ false
other_number m n ne = grind (arith, nat_tests)

behind : (n : ℕ) (xs ys : List Flown) → Each (λ (f : Flown). f.number ≢ n) xs → find (is_numbered n) (xs ++ ys) ≡ find (is_numbered n) ys
behind n [] ys h = refl
behind n (f ∷ xs) ys h = rw (other_number f.number n h.0) (behind n xs ys h.1)

not_behind : (n started : ℕ) (flown : List Flown) → Ascend 0 started flown → started < n → Each (λ (f : Flown). f.number ≢ n) flown
not_behind n started flown h lt =
    each-weaker (λ (f : Flown). (0 < f.number) × (f.number ≤ started)) (λ (f : Flown). f.number ≢ n) (λ f p e. absurd (omega (arith, p.1, e, lt))) flown
    (ascend-numbers 0 started flown h)

found_by : (p : Flown → Bool) (b : Bool) (x : Flown) (xs ys : List Flown) (f : Flown) → cond b (Some x) (find p xs) ≡ Some f
    → (find p xs ≡ Some f → find p (xs ++ ys) ≡ Some f) → cond b (Some x) (find p (xs ++ ys)) ≡ Some f
found_by p true x xs ys f h more = h
found_by p false x xs ys f h more = more h

found_first : (p : Flown → Bool) (xs ys : List Flown) (f : Flown) → find p xs ≡ Some f → find p (xs ++ ys) ≡ Some f
found_first p [] ys f h = let no : ⊥ = cc in absurd no
found_first p (x ∷ xs) ys f h = found_by p (p x) x xs ys f h (found_first p xs ys f)

stays_first : (p : Flown → Bool) (xs ys : List Flown) (o q : Option Flown) → find p xs ≡ q → StaysAt o q → StaysAt o (find p (xs ++ ys))
stays_first p xs ys None q at a = absurd a
stays_first p xs ys (Some f) None at a = absurd a
stays_first p xs ys (Some f) (Some g) at a = rw (found_first p xs ys g at) a

-- another flight is replaced

module _ (g : Flown → List Flown) (same : (f : Flown) → Each (λ (x : Flown). x.number ≡ f.number) (g f)) (n m : ℕ) (ne : n ≢ m) where
  other_each : (f : Flown) → f.number ≡ m → Each (λ (x : Flown). x.number ≢ n) (g f)
  other_each f is = each-weaker (λ (x : Flown). x.number ≡ f.number) (λ (x : Flown). x.number ≢ n) (λ x e as_n. ne (sym as_n ∙ e ∙ is)) (g f) (same f)

  one_other : (b : Bool) (f : Flown) (flown rest : List Flown) → is_numbered m f ≡ b → find (is_numbered n) rest ≡ find (is_numbered n) flown
      → find (is_numbered n) (if b then g f ++ flown else f ∷ rest) ≡ find (is_numbered n) (f ∷ flown)
  one_other true f flown rest told more =
      let is = eqb-true f.number m told in
      let apart : f.number ≢ n = λ as_n. ne (sym as_n ∙ is) in
      behind n (g f) flown (other_each f is) ∙ rw (other_number f.number n apart) refl
  one_other false f flown rest told more = ap (λ (o : Option Flown). cond (eqb f.number n) (Some f) o) more

  found_other : (flown : List Flown) → find (is_numbered n) (replaced (is_numbered m) g flown) ≡ find (is_numbered n) flown
  found_other [] = refl
  found_other (f ∷ flown) = one_other (is_numbered m f) f flown (replaced (is_numbered m) g flown) refl (found_other flown)

over_same : (course : Course) (f : Flown) → Each (λ (x : Flown). x.number ≡ f.number) (over course f)
over_same course f = each-either (λ (x : Flown). x.number ≡ f.number) (nat_eq f.joiners 0) [] (record f { course = course } ∷ []) tt (refl, tt)

less_same : (f : Flown) → Each (λ (x : Flown). x.number ≡ f.number) (without_joiner f)
less_same f = each-either (λ (x : Flown). x.number ≡ f.number) (nat_eq (f.joiners - 1) 0) [] (record f { joiners = f.joiners - 1 } ∷ []) tt (refl, tt)

-- a joiner more

abbrev Alike : Option Flown → Option Flown → Type 0
Alike None None = Unit {0}
Alike None (Some g) = ⊥
Alike (Some f) None = ⊥
Alike (Some f) (Some g) = StaysOf f g

alike : (o : Option Flown) → Alike o o
alike None = tt
alike (Some f) = stays f

alike_both : (o p q : Option Flown) → Alike o p → Alike p q → Alike o q
alike_both None None q a b = b
alike_both None (Some g) q a b = absurd a
alike_both (Some f) None q a b = absurd a
alike_both (Some f) (Some g) None a b = b
alike_both (Some f) (Some g) (Some h) a b = stays_more f g h a b

alike_stays : (lane : ℕ) (o p : Option Flown) → RunsFor lane o → Alike o p → StaysAt o p
alike_stays lane None p r a = r
alike_stays lane (Some f) None r a = a
alike_stays lane (Some f) (Some g) r a = a

alike_by : (b : Bool) (f g : Flown) (o p : Option Flown) → StaysOf f g → Alike o p → Alike (cond b (Some f) o) (cond b (Some g) p)
alike_by true f g o p one more = one
alike_by false f g o p one more = more

one_joined : (n : ℕ) (b : Bool) (f : Flown) (flown rest : List Flown) → Alike (find (is_numbered n) flown) (find (is_numbered n) rest)
    → Alike (find (is_numbered n) (f ∷ flown)) (find (is_numbered n) (if b then with_joiner f ++ flown else f ∷ rest))
one_joined n true f flown rest more =
    alike_by (eqb f.number n) f (record f { joiners = f.joiners + 1 }) (find (is_numbered n) flown) (find (is_numbered n) flown)
    (record { number = refl; lane = refl; stamp = refl; key = refl; course = refl }) (alike (find (is_numbered n) flown))
one_joined n false f flown rest more = alike_by (eqb f.number n) f f (find (is_numbered n) flown) (find (is_numbered n) rest) (stays f) more

joined_alike : (n : ℕ) (p : Flown → Bool) (flown : List Flown) → Alike (find (is_numbered n) flown) (find (is_numbered n) (replaced p with_joiner flown))
joined_alike n p [] = tt
joined_alike n p (f ∷ flown) = one_joined n (p f) f flown (replaced p with_joiner flown) (joined_alike n p flown)

all_alike : (n : ℕ) (flown : List Flown) (joins : List Joined) → Alike (find (is_numbered n) flown) (find (is_numbered n) (joined_by flown joins))
all_alike n flown [] = alike (find (is_numbered n) flown)
all_alike n flown (j ∷ joins) =
    let after : List Flown = replaced (is_numbered j.flight) with_joiner flown in
    alike_both (find (is_numbered n) flown) (find (is_numbered n) after) (find (is_numbered n) (joined_by after joins))
    (joined_alike n (is_numbered j.flight) flown) (all_alike n after joins)

-- flights that start

first_runs : (lane number n : ℕ) (f : Flown) (flown : List Flown) → f.number ≡ n → f.lane ≡ lane → runs f.course ≡ true → RunsFor lane (find (is_numbered n) (f ∷ flown))
first_runs lane number n f flown is own run = let told : eqb f.number n ≡ true = eq-eqb f.number n is in rw told (own, run)

groups_run : (versions : List Publication) (lane number n : ℕ) (gs : List Group) → Among n (numbers_from number gs)
    → RunsFor lane (find (is_numbered n) (group_flights versions lane number gs))
groups_run versions lane number n [] a = a
groups_run versions lane number n (g ∷ gs) (inl e) = first_runs lane number n _ (group_flights versions lane (number + 1) gs) e refl refl
groups_run versions lane number n (g ∷ gs) (inr a) =
    let both = numbers_among (number + 1) n gs a in
    let ne : number ≢ n = λ e. absurd (omega (arith, both.0, e)) in
    rw (other_number number n ne) (groups_run versions lane (number + 1) n gs a)

own_runs : (lane number n flight : ℕ) (joins : List Joined) → is_first_join joins flight ≡ true → number ≡ n → RunsFor lane (find (is_numbered n) (own_flight number lane joins))
own_runs lane number n flight [] first is = let no : ⊥ = cc in absurd no
own_runs lane number n flight (j ∷ joins) first is = first_runs lane number n _ [] is refl refl

-- a flight that is taken doesn't run

course_ended : (started : ℕ) (course : Course) (next : Option ℕ) → takes_course started course next ≡ true → runs course ≡ true → ⊥
course_ended started Running next takes run = cc
course_ended started Landed next takes run = cc
course_ended started Fallen next takes run = cc

taken_ended : (started lane : ℕ) (o : Option Flown) (next : Option ℕ) → takes_as started o next ≡ true → RunsFor lane o → ⊥
taken_ended started lane None next takes r = r
taken_ended started lane (Some f) next takes r = course_ended started f.course next takes r.1

-- what is known of a state that the machine comes to

reached_apart : (l : LoadedFiles) (s : State) → IsReached l s → AreApart s.works s.flights.started
reached_apart l s r = let h = (IsLosing-after l r.journal r.legal).others in rw (← r.after) h

reached_rises : (l : LoadedFiles) (s : State) (i : ℕ) → IsReached l s → Rises (get_or s.works i no_work).own
reached_rises l s i r = let h = ((IsLosing-after l r.journal r.legal).each i).rises in rw (← r.after) h

-- each own flight of each lane is there, runs, and is the lane's
pub record IsFlying (works : List Work) (flown : List Flown) : Type 0 where
  pub each : (lane n : ℕ) → 0 < lane → Among n (get_or works (lane - 1) no_work).own → RunsFor lane (find (is_numbered n) flown)

IsFlying-start : (l : LoadedFiles) → IsFlying (start l).works (start l).flights.flown
IsFlying-start l = record { each = λ lane n above a. absurd (no_own (length l.script.lanes) (lane - 1) n a) }

-- an entry of another lane

module _ (l : LoadedFiles) (s : State) (r : IsReached l s) (h : IsFlying s.works s.flights.flown) where
  kept : (lane n : ℕ) → 0 < lane → Among n (work_of s lane).own → StaysAt (flight_at s n) (flight_at s n)
  kept lane n above a = here_stays lane (flight_at s n) (h.each lane n above a)

  -- a flight of another number is replaced
  other_replaced : (lane n m : ℕ) (g : Flown → List Flown) → ((f : Flown) → Each (λ (x : Flown). x.number ≡ f.number) (g f)) → n ≢ m → 0 < lane
      → Among n (work_of s lane).own → StaysAt (flight_at s n) (find (is_numbered n) (replaced (is_numbered m) g s.flights.flown))
  other_replaced lane n m g same ne above a = rw (found_other g same n m ne s.flights.flown) (kept lane n above a)

  -- the first own flight of one lane is none of another's
  first_apart : (lane other n m : ℕ) → 0 < lane → 0 < other → other ≢ lane → is_first (work_of s other).own m ≡ true → Among n (work_of s lane).own → n ≢ m
  first_apart lane other n m above above' ne first a same =
      let apart : lane - 1 ≢ other - 1 = λ e. ne (omega (arith, e, above, above')) in
      let b = first_among (work_of s other).own m first in
      absurd ((reached_apart l s r).apart (lane - 1) (other - 1) n apart a (rw same b))

  taken_apart : (lane other taken n : ℕ) (next : Option ℕ) → 0 < lane → may_take s (work_of s other) taken next ≡ true → Among n (work_of s lane).own → n ≢ taken
  taken_apart lane other taken n next above may a same =
      let w : Work = work_of s other in
      let takes = and_second (none_left w.own && is_first_join w.joins taken) (takes_as s.flights.started (flight_at s taken) next) may in
      let run = h.each lane n above a in
      taken_ended s.flights.started lane (flight_at s taken) next takes (rw same at run)

  take_stays : (lane other taken n : ℕ) (next : Option ℕ) (joins : List Joined) → 0 < lane → may_take s (work_of s other) taken next ≡ true → Among n (work_of s lane).own
      → StaysAt (flight_at s n) (find (is_numbered n) (flights_taken s.flights other taken joins next).flown)
  take_stays lane other taken n None joins above may a =
      other_replaced lane n taken without_joiner less_same (taken_apart lane other taken n None above may a) above a
  take_stays lane other taken n (Some number) joins above may a =
      stays_first (is_numbered n) (let_go taken s.flights.flown) (own_flight number other joins) (flight_at s n) (find (is_numbered n) (let_go taken s.flights.flown)) refl
      (other_replaced lane n taken without_joiner less_same (taken_apart lane other taken n (Some number) above may a) above a)

  pub others_stay : (e : Entry) → allowed l s e ≡ true → (lane n : ℕ) → 0 < lane → lane_of e ≢ lane → Among n (work_of s lane).own
      → StaysAt (flight_at s n) (find (is_numbered n) (next l s e).flights.flown)
  others_stay (Publish other number) may lane n above ne a = kept lane n above a
  others_stay (Admit other number met) may lane n above ne a =
      let adm = admission_of l s other number in
      let one = alike_stays lane (flight_at s n) (find (is_numbered n) (joined_by s.flights.flown adm.joins)) (h.each lane n above a) (all_alike n s.flights.flown adm.joins) in
      stays_first (is_numbered n) (joined_by s.flights.flown adm.joins) (group_flights s.versions other (s.flights.started + 1) adm.groups) (flight_at s n)
      (find (is_numbered n) (joined_by s.flights.flown adm.joins)) refl one
  others_stay (Lease other flight link fresh) may lane n above ne a = kept lane n above a
  others_stay (Give other flight link ran runs calls) may lane n above ne a = kept lane n above a
  others_stay (Lose other flight link dialled ran runs calls) may lane n above ne a = kept lane n above a
  others_stay (Land other flight cells clever literal) may lane n above ne a =
      let e : Entry = Land other flight cells clever literal in
      let w : Work = work_of s other in
      let first = and_first (is_first w.own flight) (has_run w.phase) (and_first (is_first w.own flight && has_run w.phase) (may_land_at l s.versions (flight_at s flight) cells clever literal) (allowed_may l s e may)) in
      other_replaced lane n flight (over Landed) (over_same Landed) (first_apart lane other n flight above (allowed_above l s e may) ne first a) above a
  others_stay (Fall other flight cause) may lane n above ne a =
      let e : Entry = Fall other flight cause in
      let w : Work = work_of s other in
      let first = and_first (is_first w.own flight) (may_fall w.phase cause) (allowed_may l s e may) in
      other_replaced lane n flight (over Fallen) (over_same Fallen) (first_apart lane other n flight above (allowed_above l s e may) ne first a) above a
  others_stay (Take other taken next) may lane n above ne a = take_stays lane other taken n next (work_of s other).joins above (allowed_may l s (Take other taken next) may) a
  others_stay (End other) may lane n above ne a = kept lane n above a

  -- the lane itself

  rest_apart : (own : List ℕ) (n m : ℕ) → Rises own → is_first own m ≡ true → Among n (drop 1 own) → n ≢ m
  rest_apart [] n m rises first a same = a
  rest_apart (f ∷ own) n m rises first a same =
      let is = eqb-true f m first in
      let lt = above_among f n own rises.0 a in
      absurd (omega (arith, is, lt, same))

  ended_runs : (lane flight n : ℕ) (course : Course) → 0 < lane → is_first (work_of s lane).own flight ≡ true → Among n (drop 1 (work_of s lane).own)
      → RunsFor lane (find (is_numbered n) (ended course flight s.flights.flown))
  ended_runs lane flight n course above first a =
      let own = drop_among (work_of s lane).own n a in
      let ne = rest_apart (work_of s lane).own n flight (reached_rises l s (lane - 1) r) first a in
      rw (found_other (over course) (over_same course) n flight ne s.flights.flown) (h.each lane n above own)

  taken_runs : (lane taken n : ℕ) (next : Option ℕ) → 0 < lane → may_take s (work_of s lane) taken next ≡ true → Among n (work_taken (work_of s lane) next).own
      → RunsFor lane (find (is_numbered n) (flights_taken s.flights lane taken (work_of s lane).joins next).flown)
  taken_runs lane taken n None above may a =
      still_runs lane (flight_at s n) _ (h.each lane n above a) (take_stays lane lane taken n None (work_of s lane).joins above may a)
  taken_runs lane taken n (Some number) above may (inr a) = absurd a
  taken_runs lane taken n (Some number) above may (inl e) =
      let v : Work = work_of s lane in
      let both = and_first (none_left v.own && is_first_join v.joins taken) (takes_as s.flights.started (flight_at s taken) (Some number)) may in
      let first = and_second (none_left v.own) (is_first_join v.joins taken) both in
      let is = next_of s.flights.started number (flight_at s taken) (and_second (none_left v.own && is_first_join v.joins taken) (takes_as s.flights.started (flight_at s taken) (Some number)) may) in
      let numbers = ascend-let_go 0 s.flights.started taken s.flights.flown (IsOwned-reached l s r).numbers in
      rw (behind n (let_go taken s.flights.flown) (own_flight number lane v.joins) (not_behind n s.flights.started (let_go taken s.flights.flown) numbers (omega (arith, is, e))))
      (own_runs lane number n taken v.joins first e)

  own_stays : (e : Entry) → allowed l s e ≡ true → (n : ℕ) → Among n (work_by l s (work_of s (lane_of e)) e).own
      → RunsFor (lane_of e) (find (is_numbered n) (next l s e).flights.flown)
  own_stays (Publish lane number) may n a = h.each lane n (allowed_above l s (Publish lane number) may) a
  own_stays (Admit lane number met) may n a =
      let adm = admission_of l s lane number in
      let both = numbers_among (s.flights.started + 1) n adm.groups a in
      let numbers = ascend-joined 0 s.flights.started s.flights.flown adm.joins (IsOwned-reached l s r).numbers in
      rw (behind n (joined_by s.flights.flown adm.joins) (group_flights s.versions lane (s.flights.started + 1) adm.groups)
      (not_behind n s.flights.started (joined_by s.flights.flown adm.joins) numbers (omega (arith, both.0))))
      (groups_run s.versions lane (s.flights.started + 1) n adm.groups a)
  own_stays (Lease lane flight link fresh) may n a = h.each lane n (allowed_above l s (Lease lane flight link fresh) may) a
  own_stays (Give lane flight link ran runs calls) may n a = h.each lane n (allowed_above l s (Give lane flight link ran runs calls) may) a
  own_stays (Lose lane flight link dialled ran runs calls) may n a = h.each lane n (allowed_above l s (Lose lane flight link dialled ran runs calls) may) a
  own_stays (Land lane flight cells clever literal) may n a =
      let e : Entry = Land lane flight cells clever literal in
      let w : Work = work_of s lane in
      let first = and_first (is_first w.own flight) (has_run w.phase) (and_first (is_first w.own flight && has_run w.phase) (may_land_at l s.versions (flight_at s flight) cells clever literal) (allowed_may l s e may)) in
      ended_runs lane flight n Landed (allowed_above l s e may) first a
  own_stays (Fall lane flight cause) may n a =
      let e : Entry = Fall lane flight cause in
      let w : Work = work_of s lane in
      let first = and_first (is_first w.own flight) (may_fall w.phase cause) (allowed_may l s e may) in
      ended_runs lane flight n Fallen (allowed_above l s e may) first a
  own_stays (Take lane taken next) may n a =
      let e : Entry = Take lane taken next in
      taken_runs lane taken n next (allowed_above l s e may) (allowed_may l s e may) a
  own_stays (End lane) may n a = h.each lane n (allowed_above l s (End lane) may) a

  -- any lane

  within : (e : Entry) → allowed l s e ≡ true → lane_of e - 1 < length s.works
  within e may = omega (arith, allowed_above l s e may, allowed_within l s e may)

  flies_by : (e : Entry) → allowed l s e ≡ true → (lane n : ℕ) → 0 < lane → Among n (get_or (next l s e).works (lane - 1) no_work).own
      → ((eqb (lane_of e - 1) (lane - 1) ≡ true) × (lane_of e - 1 ≡ lane - 1)) ⊎ ((eqb (lane_of e - 1) (lane - 1) ≡ false) × (lane_of e - 1 ≢ lane - 1))
      → RunsFor lane (find (is_numbered n) (next l s e).flights.flown)
  flies_by e may lane n above a (inl (told, same)) =
      let is : lane_of e ≡ lane = omega (arith, same, above, allowed_above l s e may) in
      let b = rw (← same, get_or-set_same s.works (lane_of e - 1) (work_by l s (work_of s (lane_of e)) e) no_work (within e may)) at a in
      rw (← is) (own_stays e may n b)
  flies_by e may lane n above a (inr (told, apart)) =
      let ne : lane - 1 ≢ lane_of e - 1 = λ is. apart (sym is) in
      let b = rw (get_or-set_other s.works (lane_of e - 1) (lane - 1) (work_by l s (work_of s (lane_of e)) e) no_work ne) at a in
      let other : lane_of e ≢ lane = λ is. apart (ap (λ k. k - 1) is) in
      still_runs lane (flight_at s n) _ (h.each lane n above b) (others_stay e may lane n above other b)

  IsFlying-next : (e : Entry) → allowed l s e ≡ true → IsFlying (next l s e).works (next l s e).flights.flown
  IsFlying-next e may = record { each = λ lane n above a. flies_by e may lane n above a (eqb_tells (lane_of e - 1) (lane - 1)) }

record Flies (l : LoadedFiles) (s : State) : Type 0 where
  reached : IsReached l s
  flying : IsFlying s.works s.flights.flown

Flies-next : (l : LoadedFiles) (s : State) (e : Entry) → Flies l s → allowed l s e ≡ true → Flies l (next l s e)
Flies-next l s e h may = record { reached = IsReached-next l s e h.reached may; flying = IsFlying-next l s h.reached h.flying e may }

pub IsFlying-reached : (l : LoadedFiles) (s : State) → IsReached l s → IsFlying s.works s.flights.flown
IsFlying-reached l s r =
    let all : Flies l s = reached_keeps l (Flies l) (λ s e h may. Flies-next l s e h may) s (record { reached = IsReached-start l; flying = IsFlying-start l }) r in
    all.flying

-- what that comes to

pub each_among : (P : ℕ → Type 0) (own : List ℕ) → ((n : ℕ) → Among n own → P n) → Each P own
each_among P [] h = tt
each_among P (m ∷ own) h = (h m (inl refl), each_among P own (λ n a. h n (inr a)))

pub running : (l : LoadedFiles) (journal : List Entry) → legal l journal ≡ true → AreRunning (after l journal)
running l journal lawful =
    let s = after l journal in
    let h = IsFlying-reached l s (legal_reached l journal lawful) in
    record {
      each = λ lane above. all_each (λ n. RunsFor lane (flight_at s n)) (work_of s lane).own
          (each_among (λ n. RunsFor lane (flight_at s n)) (work_of s lane).own (λ n a. h.each lane n above a));
    }
