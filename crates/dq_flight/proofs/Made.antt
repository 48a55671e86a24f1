-- What the changes make of one flight.
use Rattle.std.proofs.Common.{◌≡◌, ℕ, ◌-◌, true, false, [], ◌∷◌, refl, nat_eq, arith}
use Rattle.std.proofs.lemmas.Bool.Decides.{nat_tests}
use Rattle.dq_flight.specs.Flights.{FlightOf, Course, ended, taken, runs}

is_zero : (n : ℕ) → n ≡ 0 → nat_eq n 0 ≡ true
is_zero n e = grind (arith, nat_tests)

not_zero : (n : ℕ) → (n ≡ 0 → ⊥) → nat_eq n 0 ≡ false
not_zero n e = grind (arith, nat_tests)

pub ended_out : (course : Course) (f : FlightOf) → f.joiners ≡ 0 → ended course f ≡ []
ended_out course f e = let z = is_zero f.joiners e in rw z refl

pub ended_kept : (course : Course) (f : FlightOf) → (f.joiners ≡ 0 → ⊥) → ended course f ≡ record f { course = course } ∷ []
ended_kept course f e = let z = not_zero f.joiners e in rw z refl

pub taken_running : (f : FlightOf) → runs f.course ≡ true → taken f ≡ f ∷ []
taken_running f e = rw e refl

pub taken_out : (f : FlightOf) → runs f.course ≡ false → f.joiners - 1 ≡ 0 → taken f ≡ []
taken_out f e h = let z = is_zero (f.joiners - 1) h in rw (e, z) refl

pub taken_kept : (f : FlightOf) → runs f.course ≡ false → (f.joiners - 1 ≡ 0 → ⊥) → taken f ≡ record f { joiners = f.joiners - 1 } ∷ []
taken_kept f e h = let z = not_zero (f.joiners - 1) h in rw (e, z) refl
