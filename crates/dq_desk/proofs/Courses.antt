-- The flights that the desk keeps, and those of the machine.
use Rattle.std.proofs.Common.{◌≡◌, ℕ, ◌-◌, Bool, true, false, List, [], ◌∷◌, ◌++◌, find, map, cond, refl, ap, sym, ◌∙◌, arith}
use Rattle.std.proofs.lemmas.Bool.{eqb-true}
use Rattle.std.proofs.lemmas.List.{map-append}
use Rattle.std.specs.List.{AllByRecursion}
use Rattle.std.specs.Prelude.{All, IsSomeAnd, Option, Some, None, nat_eq, option_map, suc, zero, if◌then◌else◌}
use Rattle.dq_flight.specs.Flights.{Course as Told, FlightOf, FlightsOf, ended, flight_of, is_numbered, replaced, runs, taken}
use Rattle.dq_machine.specs.Landing as landing
use Rattle.dq_machine.specs.State.{Course, Running, Landed, Fallen, Flights, Flown, Publication, State, flight_at}
use Rattle.dq_machine.specs.State as state
use Rattle.dq_machine.specs.Taking.{let_go, without_joiner}
use Rattle.dq_desk.specs.Kept.{AreFlights, IsFlight, course_of, flown_of}

-- lists

module _ {X Y : Type 0} (f : X → Y) where
  some_map : (b : Bool) (x : X) (o : Option X) → cond b (Some (f x)) (option_map f o) ≡ option_map f (cond b (Some x) o)
  some_map true x o = refl
  some_map false x o = refl

  find_map : (p : X → Bool) (q : Y → Bool) → ((x : X) → p x ≡ q (f x)) → (xs : List X) → find q (map f xs) ≡ option_map f (find p xs)
  find_map p q same [] = refl
  find_map p q same (x ∷ xs) =
      ap (λ b. cond b (Some (f x)) (find q (map f xs))) (sym (same x)) ∙ ap (λ o. cond (p x) (Some (f x)) o) (find_map p q same xs) ∙ some_map (p x) x (find p xs)

  either_map : (b : Bool) (xs ys : List X) → map f (if b then xs else ys) ≡ (if b then map f xs else map f ys)
  either_map true xs ys = refl
  either_map false xs ys = refl

  replaced_either : (b : Bool) (x : X) (xs rest : List X) (g : X → List X) (ys zs : List Y) → (b ≡ true → map f (g x) ≡ ys) → (b ≡ false → map f rest ≡ zs)
      → map f (if b then g x ++ xs else x ∷ rest) ≡ (if b then ys ++ map f xs else f x ∷ zs)
  replaced_either true x xs rest g ys zs this others = map-append f (g x) xs ∙ ap (λ us. us ++ map f xs) (this refl)
  replaced_either false x xs rest g ys zs this others = ap (λ us. f x ∷ us) (others refl)

  -- the first that passes is replaced on both sides
  map_replaced : (p : X → Bool) (q : Y → Bool) (g : X → List X) (k : Y → List Y) → ((x : X) → p x ≡ q (f x)) → (xs : List X)
      → ((x : X) → find p xs ≡ Some x → map f (g x) ≡ k (f x)) → map f (replaced p g xs) ≡ replaced q k (map f xs)
  map_replaced p q g k same [] by = refl
  map_replaced p q g k same (x ∷ xs) by =
      replaced_either (p x) x xs (replaced p g xs) g (k (f x)) (replaced q k (map f xs)) (λ is. by x (rw is refl))
      (λ is. map_replaced p q g k same xs (λ y found. by y (rw is found)))
      ∙ ap (λ b. if b then k (f x) ++ map f xs else f x ∷ replaced q k (map f xs)) (same x)

module _ {X : Type 0} (P : X → Type 0) where
  pub all-append : (xs ys : List X) → AllByRecursion P xs → AllByRecursion P ys → AllByRecursion P (xs ++ ys)
  all-append [] ys h more = more
  all-append (x ∷ xs) ys h more = (h.0, all-append xs ys h.1 more)

  -- the first that passes is replaced by such as have the property
  replaced_by : (p : X → Bool) (g : X → List X) (b : Bool) (x : X) (xs rest : List X) → p x ≡ b → P x → AllByRecursion P xs
      → (p x ≡ true → P x → AllByRecursion P (g x)) → (p x ≡ false → AllByRecursion P rest) → AllByRecursion P (if b then g x ++ xs else x ∷ rest)
  replaced_by p g true x xs rest is here h this others = all-append (g x) xs (this is here) h
  replaced_by p g false x xs rest is here h this others = (here, others is)

  pub all-replaced : (p : X → Bool) (g : X → List X) (xs : List X) → AllByRecursion P xs → ((x : X) → find p xs ≡ Some x → P x → AllByRecursion P (g x))
      → AllByRecursion P (replaced p g xs)
  all-replaced p g [] h this = tt
  all-replaced p g (x ∷ xs) h this =
      replaced_by p g (p x) x xs (replaced p g xs) refl h.0 h.1 (λ is. this x (rw is refl))
      (λ is. all-replaced p g xs h.1 (λ y found. this y (rw is found)))

  found_step : (b : Bool) (x y : X) (o : Option X) → cond b (Some x) o ≡ Some y → P x → (o ≡ Some y → P y) → P y
  found_step true x y o e here there = let same : x ≡ y = cc in rw (← same) here
  found_step false x y o e here there = there e

  pub all-found : (p : X → Bool) (xs : List X) (y : X) → find p xs ≡ Some y → AllByRecursion P xs → P y
  all-found p [] y e h = let no : ⊥ = cc in absurd no
  all-found p (x ∷ xs) y e h = found_step (p x) x y (find p xs) e h.0 (λ e. all-found p xs y e h.1)

  -- of the properties that the laws state by places
  pub each-found : (p : X → Bool) (xs : List X) (y : X) → find p xs ≡ Some y → All P xs → P y
  each-found p [] y e h = let no : ⊥ = cc in absurd no
  each-found p (x ∷ xs) y e h = found_step (p x) x y (find p xs) e (h zero x (omega arith)) (λ e. each-found p xs y e (λ k d lt. h (suc k) d (omega (arith, lt))))

found_passes : {X : Type 0} (p : X → Bool) (b : Bool) (x y : X) (o : Option X) → p x ≡ b → cond b (Some x) o ≡ Some y → (o ≡ Some y → p y ≡ true) → p y ≡ true
found_passes p true x y o is e there = let same : x ≡ y = cc in rw (← same) is
found_passes p false x y o is e there = there e

pub find-passes : {X : Type 0} (p : X → Bool) (xs : List X) (y : X) → find p xs ≡ Some y → p y ≡ true
find-passes p [] y e = let no : ⊥ = cc in absurd no
find-passes p (x ∷ xs) y e = found_passes p (p x) x y (find p xs) refl e (λ e. find-passes p xs y e)

-- the flight of a number

some_kept : (o : Option FlightOf) (f : Flown) → option_map flown_of o ≡ Some f → IsSomeAnd o (λ kept. flown_of kept ≡ f)
some_kept None f e = cc
some_kept (Some kept) f e = cc

-- a flight is there: it is kept
pub record IsKept (versions : List Publication) (kept : List FlightOf) (flight : ℕ) (f : Flown) : Type 0 where
  pub held : FlightOf
  pub found : flight_of flight kept ≡ Some held
  pub flown : flown_of held ≡ f
  pub number : held.number ≡ flight
  pub is : IsFlight versions held

kept_by : (versions : List Publication) (kept : List FlightOf) (flight : ℕ) (f : Flown) (o : Option FlightOf) → flight_of flight kept ≡ o → IsSomeAnd o (λ held. flown_of held ≡ f)
    → AllByRecursion (IsFlight versions) kept → IsKept versions kept flight f
kept_by versions kept flight f None found is each = absurd is
kept_by versions kept flight f (Some held) found is each = record {
  held = held;
  found = found;
  flown = is;
  number = eqb-true held.number flight (find-passes (is_numbered flight) kept held found);
  is = all-found (IsFlight versions) (is_numbered flight) kept held found each;
}

pub is-kept : (versions : List Publication) (all : Flights) (kept : FlightsOf) (started flight : ℕ) (f : Flown) → AreFlights versions all kept started
    → find (state.is_numbered flight) all.flown ≡ Some f → IsKept versions kept.flights flight f
is-kept versions all kept started flight f h found =
    let there : option_map flown_of (flight_of flight kept.flights) ≡ Some f =
    sym (find_map flown_of (is_numbered flight) (state.is_numbered flight) (λ x. refl) kept.flights) ∙ ap (find (state.is_numbered flight)) h.flown ∙ found in
    kept_by versions kept.flights flight f (flight_of flight kept.flights) refl (some_kept (flight_of flight kept.flights) f there) h.each

-- the end of a flight

ended_one : (told : Told) (f : FlightOf) → map flown_of (ended told f) ≡ landing.over (course_of told) (flown_of f)
ended_one told f = either_map flown_of (nat_eq f.joiners 0) [] (record f { course = told } ∷ [])

pub flown-ended : (told : Told) (flight : ℕ) (kept : List FlightOf) → map flown_of (replaced (is_numbered flight) (ended told) kept) ≡ landing.ended (course_of told) flight (map flown_of kept)
flown-ended told flight kept =
    map_replaced flown_of (is_numbered flight) (state.is_numbered flight) (ended told) (landing.over (course_of told)) (λ f. refl) kept (λ f found. ended_one told f)

all_one : (P : FlightOf → Type 0) (b : Bool) (f : FlightOf) → P f → AllByRecursion P (if b then [] else f ∷ [])
all_one P true f h = tt
all_one P false f h = (h, tt)

pub each-ended : (versions : List Publication) (told : Told) (flight : ℕ) (kept : List FlightOf) → AllByRecursion (IsFlight versions) kept
    → ((f : FlightOf) → flight_of flight kept ≡ Some f → IsFlight versions f → IsFlight versions (record f { course = told }))
    → AllByRecursion (IsFlight versions) (replaced (is_numbered flight) (ended told) kept)
each-ended versions told flight kept h this =
    all-replaced (IsFlight versions) (is_numbered flight) (ended told) kept h
    (λ f found is. all_one (IsFlight versions) (nat_eq f.joiners 0) (record f { course = told }) (this f found is))

-- a joiner of a flight that has ended is let go

same_either : {X : Type 0} (b : Bool) (x : X) (xs rest : List X) (g : X → List X) → (b ≡ true → g x ≡ x ∷ []) → (b ≡ false → rest ≡ xs) → (if b then g x ++ xs else x ∷ rest) ≡ x ∷ xs
same_either true x xs rest g this others = ap (λ ys. ys ++ xs) (this refl)
same_either false x xs rest g this others = ap (λ ys. x ∷ ys) (others refl)

-- what is replaced by itself stays
pub replaced-same : {X : Type 0} (p : X → Bool) (g : X → List X) (xs : List X) → ((x : X) → find p xs ≡ Some x → g x ≡ x ∷ []) → replaced p g xs ≡ xs
replaced-same p g [] this = refl
replaced-same p g (x ∷ xs) this =
    same_either (p x) x xs (replaced p g xs) g (λ is. this x (rw is refl)) (λ is. replaced-same p g xs (λ y found. this y (rw is found)))

pub taken-running : (f : FlightOf) → runs f.course ≡ true → taken f ≡ f ∷ []
taken-running f is = rw is refl

taken_ended : (f : FlightOf) → runs f.course ≡ false → map flown_of (taken f) ≡ without_joiner (flown_of f)
taken_ended f still = rw still (either_map flown_of (nat_eq (f.joiners - 1) 0) [] (record f { joiners = f.joiners - 1 } ∷ []))

pub flown-taken : (flight : ℕ) (kept : List FlightOf) → ((f : FlightOf) → flight_of flight kept ≡ Some f → runs f.course ≡ false)
    → map flown_of (replaced (is_numbered flight) taken kept) ≡ let_go flight (map flown_of kept)
flown-taken flight kept still =
    map_replaced flown_of (is_numbered flight) (state.is_numbered flight) taken without_joiner (λ f. refl) kept (λ f found. taken_ended f (still f found))

either_taken : (P : FlightOf → Type 0) (b c : Bool) (f g : FlightOf) → P f → P g → AllByRecursion P (if b then f ∷ [] else (if c then [] else g ∷ []))
either_taken P true c f g here less = (here, tt)
either_taken P false true f g here less = tt
either_taken P false false f g here less = (less, tt)

pub each-taken : (versions : List Publication) (flight : ℕ) (kept : List FlightOf) → AllByRecursion (IsFlight versions) kept
    → AllByRecursion (IsFlight versions) (replaced (is_numbered flight) taken kept)
each-taken versions flight kept h =
    all-replaced (IsFlight versions) (is_numbered flight) taken kept h
    (λ f found is. either_taken (IsFlight versions) (runs f.course) (nat_eq (f.joiners - 1) 0) f (record f { joiners = f.joiners - 1 }) is
    (record { stamp = is.stamp; table = is.table; sized = is.sized }))
