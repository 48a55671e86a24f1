-- Flights stay in the order of their numbers, and the first that fits is the lowest.
use Rattle.std.proofs.Common.{◌≡◌, ℕ, ◌-◌, ◌+◌, Bool, true, false, not, ◌||◌, ◌&&◌, List, [], ◌∷◌, ◌++◌, refl, arith, Some, find, nat_lt, nat_le, nat_eq, cond}
use Rattle.std.specs.Prelude.{if◌then◌else◌, IfSome}
use Rattle.std.specs.Option.{option_map}
use Rattle.std.specs.List.{list_all}
use Rattle.std.proofs.lemmas.Bool.Decides.{nat_tests}
use Rattle.dq_cover.proofs.CoverLaws.{and_both, and_left, and_right, all_weaker, or_right}
use Rattle.dq_flight.specs.Flights.{FlightOf, Course, ascends, replaced, joined, ended, taken, runs}

above_trans : (a b c : ℕ) → nat_lt a b ≡ true → nat_lt b c ≡ true → nat_lt a c ≡ true
above_trans a b c p q = grind (arith, nat_tests)

le_same : (a : ℕ) → nat_le a a ≡ true
le_same a = grind (arith, nat_tests)

le_below : (a b : ℕ) → nat_lt a b ≡ true → nat_le a b ≡ true
le_below a b p = grind (arith, nat_tests)

abbrev pub above : ℕ → List FlightOf → Bool
above n fs = list_all (λ f. nat_lt n f.number) fs

-- what it makes of a flight has the flight's number
pub record Steady (g : FlightOf → List FlightOf) : Type 0 where
  pub bounds : (n : ℕ) (f : FlightOf) (fs : List FlightOf) → nat_lt n f.number ≡ true → above n fs ≡ true → above n (g f ++ fs) ≡ true
  pub front : (f : FlightOf) (fs : List FlightOf) → above f.number fs ≡ true → ascends fs ≡ true → ascends (g f ++ fs) ≡ true

one_bounds : (n : ℕ) (f : FlightOf) (fs : List FlightOf) → nat_lt n f.number ≡ true → above n fs ≡ true → above n (f ∷ fs) ≡ true
one_bounds n f fs p a = and_both (nat_lt n f.number) (above n fs) p a

one_front : (f : FlightOf) (fs : List FlightOf) → above f.number fs ≡ true → ascends fs ≡ true → ascends (f ∷ fs) ≡ true
one_front f fs a s = and_both (above f.number fs) (ascends fs) a s

pub joined_steady : Steady joined
joined_steady = record {
  bounds = λ n f fs. one_bounds n (record f { joiners = f.joiners + 1 }) fs;
  front = λ f fs. one_front (record f { joiners = f.joiners + 1 }) fs;
}

if_bounds : (b : Bool) (n : ℕ) (f : FlightOf) (fs : List FlightOf) → nat_lt n f.number ≡ true → above n fs ≡ true → above n ((if b then [] else f ∷ []) ++ fs) ≡ true
if_bounds true n f fs p a = a
if_bounds false n f fs p a = one_bounds n f fs p a

if_front : (b : Bool) (f : FlightOf) (fs : List FlightOf) → above f.number fs ≡ true → ascends fs ≡ true → ascends ((if b then [] else f ∷ []) ++ fs) ≡ true
if_front true f fs a s = s
if_front false f fs a s = one_front f fs a s

pub ended_steady : (course : Course) → Steady (ended course)
ended_steady course = record {
  bounds = λ n f fs. if_bounds (nat_eq f.joiners 0) n (record f { course = course }) fs;
  front = λ f fs. if_front (nat_eq f.joiners 0) (record f { course = course }) fs;
}

either_bounds : (r b : Bool) (n : ℕ) (f g : FlightOf) (fs : List FlightOf) → nat_lt n f.number ≡ true → nat_lt n g.number ≡ true → above n fs ≡ true
    → above n ((if r then f ∷ [] else (if b then [] else g ∷ [])) ++ fs) ≡ true
either_bounds true b n f g fs p q a = one_bounds n f fs p a
either_bounds false b n f g fs p q a = if_bounds b n g fs q a

either_front : (r b : Bool) (f g : FlightOf) (fs : List FlightOf) → above f.number fs ≡ true → above g.number fs ≡ true → ascends fs ≡ true
    → ascends ((if r then f ∷ [] else (if b then [] else g ∷ [])) ++ fs) ≡ true
either_front true b f g fs p q a = one_front f fs p a
either_front false b f g fs p q a = if_front b g fs q a

pub taken_steady : Steady taken
taken_steady = record {
  bounds = λ n f fs p a. either_bounds (runs f.course) (nat_eq (f.joiners - 1) 0) n f (record f { joiners = f.joiners - 1 }) fs p p a;
  front = λ f fs p a. either_front (runs f.course) (nat_eq (f.joiners - 1) 0) f (record f { joiners = f.joiners - 1 }) fs p p a;
}

module _ (p : FlightOf → Bool) (g : FlightOf → List FlightOf) (s : Steady g) where
  bounds_step : (b : Bool) (n : ℕ) (f : FlightOf) (fs rest : List FlightOf) → nat_lt n f.number ≡ true → above n fs ≡ true → above n rest ≡ true → above n (if b then g f ++ fs else f ∷ rest) ≡ true
  bounds_step true n f fs rest l a c = s.bounds n f fs l a
  bounds_step false n f fs rest l a c = one_bounds n f rest l c

  above_replaced : (n : ℕ) (fs : List FlightOf) → above n fs ≡ true → above n (replaced p g fs) ≡ true
  above_replaced n [] a = refl
  above_replaced n (f ∷ fs) a =
      bounds_step (p f) n f fs (replaced p g fs) (and_left (nat_lt n f.number) (above n fs) a) (and_right (nat_lt n f.number) (above n fs) a)
      (above_replaced n fs (and_right (nat_lt n f.number) (above n fs) a))

  ascends_step : (b : Bool) (f : FlightOf) (fs rest : List FlightOf) → above f.number fs ≡ true → ascends fs ≡ true → above f.number rest ≡ true → ascends rest ≡ true → ascends (if b then g f ++ fs else f ∷ rest) ≡ true
  ascends_step true f fs rest a c d e = s.front f fs a c
  ascends_step false f fs rest a c d e = one_front f rest d e

  pub ascends_replaced : (fs : List FlightOf) → ascends fs ≡ true → ascends (replaced p g fs) ≡ true
  ascends_replaced [] a = refl
  ascends_replaced (f ∷ fs) a =
      let over = and_left (above f.number fs) (ascends fs) a in
      let rest = and_right (above f.number fs) (ascends fs) a in
      ascends_step (p f) f fs (replaced p g fs) over rest (above_replaced f.number fs over) (ascends_replaced fs rest)

above_end : (n : ℕ) (fs : List FlightOf) (f : FlightOf) → above n fs ≡ true → nat_lt n f.number ≡ true → above n (fs ++ f ∷ []) ≡ true
above_end n [] f a l = and_both (nat_lt n f.number) true l refl
above_end n (h ∷ fs) f a l = and_both (nat_lt n h.number) (above n (fs ++ f ∷ [])) (and_left (nat_lt n h.number) (above n fs) a) (above_end n fs f (and_right (nat_lt n h.number) (above n fs) a) l)

-- a number above all others goes to the end
pub ascends_end : (fs : List FlightOf) (f : FlightOf) → ascends fs ≡ true → list_all (λ h. nat_lt h.number f.number) fs ≡ true → ascends (fs ++ f ∷ []) ≡ true
ascends_end [] f a l = refl
ascends_end (h ∷ fs) f a l =
    and_both (above h.number (fs ++ f ∷ [])) (ascends (fs ++ f ∷ []))
    (above_end h.number fs f (and_left (above h.number fs) (ascends fs) a) (and_left (nat_lt h.number f.number) (list_all (λ k. nat_lt k.number f.number) fs) l))
    (ascends_end fs f (and_right (above h.number fs) (ascends fs) a) (and_right (nat_lt h.number f.number) (list_all (λ k. nat_lt k.number f.number) fs) l))

-- none that passes is below n
abbrev none_below : (FlightOf → Bool) → ℕ → List FlightOf → Bool
none_below p n fs = list_all (λ f. not (p f) || nat_le n f.number) fs

pub lowest : (p : FlightOf → Bool) (fs : List FlightOf) → ascends fs ≡ true → IfSome (option_map (λ f. f.number) (find p fs)) (λ n. none_below p n fs ≡ true)
lowest p [] a = tt
lowest p (f ∷ fs) a = (elim (p f) as (λ b. p f ≡ b → IfSome (option_map (λ h. h.number) (cond b (Some f) (find p fs))) (λ n. ((not b || nat_le n f.number) && none_below p n fs) ≡ true)) [
  | true ↦ λ e.
      and_both (nat_le f.number f.number) (none_below p f.number fs) (le_same f.number)
      (all_weaker (λ h. nat_lt f.number h.number) (λ h. not (p h) || nat_le f.number h.number) (λ h l. or_right (not (p h)) (nat_le f.number h.number) (le_below f.number h.number l)) fs (and_left (above f.number fs) (ascends fs) a))
  | false ↦ λ e. lowest p fs (and_right (above f.number fs) (ascends fs) a)
]) refl
