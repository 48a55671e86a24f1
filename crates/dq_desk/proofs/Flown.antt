-- Flights that are joined and started.
use Rattle.std.proofs.Common.{◌≡◌, ℕ, suc, ◌+◌, ◌<◌, ◌^◌, Bool, true, false, cond, List, [], ◌∷◌, ◌++◌, drop, length, map, get_or, refl, sym, ap, ◌∙◌, arith, subst, drop-cons, append_assoc}
use Rattle.std.proofs.lemmas.Bool.Decides.{nat_tests}
use Rattle.std.specs.List.{AllByRecursion, list_all}
use Rattle.std.specs.Prelude.{Option, Some, None, IsSomeAnd, nat_lt, if◌then◌else◌}
use Rattle.dq_base.specs.declared.query.Query.{Query}
use Rattle.dq_flight.specs.Flights.{FlightOf, Running, flight_of, is_numbered, joined, replaced, runs}
use Rattle.dq_machine.proofs.Reached.{and_both, and_first, and_second}
use Rattle.dq_machine.specs.State.{Joined}
use Rattle.dq_desk.specs.Plans.{AllCanJoin, CanJoin, all_joined, stamp_of, started_flight, started_flights}

-- one join more
pub joined_more : (flown after : List FlightOf) (joins : List Joined) (i : ℕ) (j : Joined) (whole : List FlightOf) → i < length joins → j ≡ get_or joins i j
    → whole ≡ all_joined flown (drop i joins) → after ≡ replaced (is_numbered j.flight) joined flown → whole ≡ all_joined after (drop (i + 1) joins)
joined_more flown after joins i j whole l e is more =
    let n : suc i ≡ i + 1 = omega arith in
    is
    ∙ ap (all_joined flown) (drop-cons joins i j l ∙ ap (λ x. x ∷ drop (suc i) joins) (sym e))
    ∙ ap (λ fs. all_joined fs (drop (suc i) joins)) (sym more)
    ∙ ap (λ k. all_joined after (drop k joins)) n

-- the flight of a number, when one was joined
abbrev CanBe : ℕ → Option FlightOf → Type 0
CanBe many o = IsSomeAnd o (λ f. (runs f.course ≡ true) × (f.joiners + many < 2 ^ 64))

can_less : (many : ℕ) (o : Option FlightOf) → CanBe (suc many) o → CanBe many o
can_less many None h = absurd h
can_less many (Some f) h = (h.0, omega (arith, h.1))

can_first : (many : ℕ) (b : Bool) (f : FlightOf) (o : Option FlightOf) → CanBe (suc many) (cond b (Some f) o) → CanBe many (cond b (Some (record f { joiners = f.joiners + 1 })) o)
can_first many true f o h = (h.0, omega (arith, h.1))
can_first many false f o h = can_less many o h

can_rest : (many : ℕ) (b : Bool) (f : FlightOf) (o o' : Option FlightOf) → (CanBe (suc many) o → CanBe many o') → CanBe (suc many) (cond b (Some f) o) → CanBe many (cond b (Some f) o')
can_rest many true f o o' more h = can_less many (Some f) h
can_rest many false f o o' more h = more h

can_either : (many number : ℕ) (b : Bool) (f : FlightOf) (fs rest : List FlightOf) → CanBe many (flight_of number (record f { joiners = f.joiners + 1 } ∷ fs)) → CanBe many (flight_of number (f ∷ rest))
    → CanBe many (flight_of number (if b then joined f ++ fs else f ∷ rest))
can_either many number true f fs rest here there = here
can_either many number false f fs rest here there = there

can_after : (many number flight : ℕ) (fs : List FlightOf) → CanJoin (suc many) fs number → CanJoin many (replaced (is_numbered flight) joined fs) number
can_after many number flight [] h = absurd h
can_after many number flight (f ∷ fs) h =
    can_either many number (is_numbered flight f) f fs (replaced (is_numbered flight) joined fs)
    (can_first many (is_numbered number f) f (flight_of number fs) h)
    (can_rest many (is_numbered number f) f (flight_of number fs) (flight_of number (replaced (is_numbered flight) joined fs)) (can_after many number flight fs) h)

all_after : (many flight : ℕ) (fs : List FlightOf) (joins : List Joined) → AllCanJoin (suc many) fs joins → AllCanJoin many (replaced (is_numbered flight) joined fs) joins
all_after many flight fs [] h = tt
all_after many flight fs (j ∷ joins) h = (can_after many j.flight flight fs h.0, all_after many flight fs joins h.1)

-- those that are left
left_are : (fs : List FlightOf) (joins : List Joined) (i : ℕ) (j : Joined) → i < length joins → j ≡ get_or joins i j → AllCanJoin (length (drop i joins)) fs (drop i joins)
    → AllCanJoin (suc (length (drop (i + 1) joins))) fs (j ∷ drop (i + 1) joins)
left_are fs joins i j l at h =
    let n : suc i ≡ i + 1 = omega arith in
    let P : List Joined → Type 0 = λ js. AllCanJoin (length js) fs js in
    subst P (drop-cons joins i j l ∙ ap (λ x. x ∷ drop (suc i) joins) (sym at) ∙ ap (λ k. j ∷ drop k joins) n) h

pub can_first_left : (fs : List FlightOf) (joins : List Joined) (i : ℕ) (j : Joined) → i < length joins → j ≡ get_or joins i j → AllCanJoin (length (drop i joins)) fs (drop i joins)
    → CanJoin 1 fs j.flight
can_first_left fs joins i j l at h = can_few (length (drop (i + 1) joins)) (flight_of j.flight fs) (left_are fs joins i j l at h).0
  where
    can_few : (many : ℕ) (o : Option FlightOf) → CanBe (suc many) o → CanBe 1 o
    can_few many None h = absurd h
    can_few many (Some f) h = (h.0, omega (arith, h.1))

pub runs_of : (o : Option FlightOf) → IsSomeAnd o (λ f. (runs f.course ≡ true) × (f.joiners + 1 < 2 ^ 64)) → IsSomeAnd o (λ f. runs f.course ≡ true)
runs_of None h = absurd h
runs_of (Some f) h = h.0

pub few_of : (o : Option FlightOf) → IsSomeAnd o (λ f. (runs f.course ≡ true) × (f.joiners + 1 < 2 ^ 64)) → IsSomeAnd o (λ f. f.joiners + 1 < 2 ^ 64)
few_of None h = absurd h
few_of (Some f) h = h.1

pub can_more : (fs after : List FlightOf) (joins : List Joined) (i : ℕ) (j : Joined) → i < length joins → j ≡ get_or joins i j → AllCanJoin (length (drop i joins)) fs (drop i joins)
    → after ≡ replaced (is_numbered j.flight) joined fs → AllCanJoin (length (drop (i + 1) joins)) after (drop (i + 1) joins)
can_more fs after joins i j l at h more =
    let P : List FlightOf → Type 0 = λ gs. AllCanJoin (length (drop (i + 1) joins)) gs (drop (i + 1) joins) in
    subst P (sym more) (all_after (length (drop (i + 1) joins)) j.flight fs (drop (i + 1) joins) (left_are fs joins i j l at h).1)

-- flights that start

pub started_as : (stamps : List ℕ) (lane number stamp : ℕ) (key : Query) → stamp ≡ stamp_of stamps key.source
    → ◌≡◌ {A = FlightOf} (record { number = number; lane = lane; stamp = stamp; key = key; course = Running; joiners = 0 }) (started_flight stamps lane number key)
started_as stamps lane number stamp key is = (λ j. record { number = number; lane = lane; stamp = is j; key = key; course = Running; joiners = 0 })

pub each_read : {K B : Type 0} (g : K → B) (P : B → Type 0) (ks : List K) (k : K) → AllByRecursion P (map g ks) → P (g k) → AllByRecursion P (map g (ks ++ k ∷ []))
each_read g P [] k h one = (one, tt)
each_read g P (x ∷ ks) k h one = (h.0, each_read g P ks k h.1 one)

-- numbers below the next are below the one behind it
pub above_more : (number : ℕ) (fs : List FlightOf) (f : FlightOf) → f.number ≡ number → list_all (λ g. nat_lt g.number number) fs ≡ true
    → list_all (λ g. nat_lt g.number (number + 1)) (fs ++ f ∷ []) ≡ true
above_more number [] f is h = let lt : f.number < number + 1 = omega (arith, is) in let one : nat_lt f.number (number + 1) ≡ true = grind (arith, nat_tests) in and_both (nat_lt f.number (number + 1)) true one refl
above_more number (g ∷ fs) f is h =
    let one : nat_lt g.number number ≡ true = and_first (nat_lt g.number number) (list_all (λ g. nat_lt g.number number) fs) h in
    let lt : nat_lt g.number (number + 1) ≡ true = grind (arith, nat_tests) in
    and_both (nat_lt g.number (number + 1)) (list_all (λ g. nat_lt g.number (number + 1)) (fs ++ f ∷ [])) lt
    (above_more number fs f is (and_second (nat_lt g.number number) (list_all (λ g. nat_lt g.number number) fs) h))

pub started_more : {K : Type 0} (key : K → Query) (stamps : List ℕ) (lane number : ℕ) (before after whole : List FlightOf) (k : K) (ks left : List K) → ks ≡ k ∷ left
    → before ++ started_flights stamps lane number (map key ks) ≡ whole → after ≡ before ++ started_flight stamps lane number (key k) ∷ []
    → after ++ started_flights stamps lane (number + 1) (map key left) ≡ whole
started_more key stamps lane number before after whole k ks left at is more =
    ap (λ fs. fs ++ started_flights stamps lane (number + 1) (map key left)) more
    ∙ append_assoc before (started_flight stamps lane number (key k) ∷ []) (started_flights stamps lane (number + 1) (map key left))
    ∙ ap (λ xs. before ++ started_flights stamps lane number (map key xs)) (sym at)
    ∙ is
