-- What the end of a flight, and the going of a joiner, make of the flights.
use Rattle.std.proofs.Common.{◌≡◌, ℕ, zero, suc, ◌-◌, true, false, List, arith, [], ◌∷◌, get_or, remove, slice_set, position, refl, ap, sym, ◌∙◌}
use Rattle.std.proofs.lemmas.Bool.Decides.{nat_tests}
use Rattle.std.proofs.lemmas.Option.{get_or_from_slice_get}
use Rattle.std.specs.Prelude.{slice_get, nat_eq, Some}
use Rattle.dq_flight.proofs.Replacing.{replaced_by, replaced_out}
use Rattle.dq_machine.specs.Landing.{ended, over}
use Rattle.dq_machine.specs.State.{Course, Flown, is_numbered}
use Rattle.dq_machine.specs.Taking.{let_go, without_joiner}

is_zero : (n : ℕ) → n ≡ 0 → nat_eq n 0 ≡ true
is_zero n e = grind (arith, nat_tests)

not_zero : (n : ℕ) → (n ≡ 0 → ⊥) → nat_eq n 0 ≡ false
not_zero n e = grind (arith, nat_tests)

over_out : (course : Course) (f : Flown) → f.joiners ≡ 0 → over course f ≡ []
over_out course f e = let told = is_zero f.joiners e in rw told refl

over_kept : (course : Course) (f : Flown) → (f.joiners ≡ 0 → ⊥) → over course f ≡ record f { course = course } ∷ []
over_kept course f ne = let told = not_zero f.joiners ne in rw told refl

less_out : (f : Flown) → f.joiners - 1 ≡ 0 → without_joiner f ≡ []
less_out f e = let told = is_zero (f.joiners - 1) e in rw told refl

less_kept : (f : Flown) → (f.joiners - 1 ≡ 0 → ⊥) → without_joiner f ≡ record f { joiners = f.joiners - 1 } ∷ []
less_kept f ne = let told = not_zero (f.joiners - 1) ne in rw told refl

module _ (number : ℕ) (xs : List Flown) (i : ℕ) (f : Flown) (at : position (is_numbered number) xs ≡ Some i) (is : f ≡ get_or xs i f) where
  pub ended_out : (course : Course) → f.joiners ≡ 0 → remove xs i ≡ ended course number xs
  ended_out course none = replaced_out (is_numbered number) (over course) xs i f at (ap (over course) (sym is) ∙ over_out course f none)

  pub ended_kept : (course : Course) (g : Flown) → slice_get xs i ≡ Some g → (f.joiners ≡ 0 → ⊥) → slice_set xs i (record g { course = course }) ≡ ended course number xs
  ended_kept course g found some =
      let same : f ≡ g = is ∙ get_or_from_slice_get xs i g f found in
      rw (← same) (replaced_by (is_numbered number) (over course) xs i (record f { course = course }) f at (ap (over course) (sym is) ∙ over_kept course f some))

  pub let_go_out : f.joiners - 1 ≡ 0 → remove xs i ≡ let_go number xs
  let_go_out none = replaced_out (is_numbered number) without_joiner xs i f at (ap without_joiner (sym is) ∙ less_out f none)

  pub let_go_kept : (g : Flown) (n : ℕ) → slice_get xs i ≡ Some g → n ≡ f.joiners - 1 → (n ≡ 0 → ⊥) → slice_set xs i (record g { joiners = n }) ≡ let_go number xs
  let_go_kept g n found left some =
      let same : f ≡ g = is ∙ get_or_from_slice_get xs i g f found in
      rw (← same, left) (replaced_by (is_numbered number) without_joiner xs i (record f { joiners = f.joiners - 1 }) f at
      (ap without_joiner (sym is) ∙ less_kept f (λ e. some (left ∙ e))))
