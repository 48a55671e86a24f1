use Rattle.std.proofs.Common.{◌≡◌, ℕ, zero, suc, ◌-◌, true, false, List, [], ◌∷◌, get_or, refl, ap, sym, subst, arith}
use Rattle.std.specs.List.{list_any}
use Rattle.std.specs.Prelude.{nat_eq}
use Rattle.dq_base.specs.declared.script.Step.{Step}
use Rattle.dq_extract.specs.Loads.{LoadedFiles}
use Rattle.dq_journal.specs.declared.entry.Entry.TheVariants.{End}
use Rattle.dq_machine.specs.Machine.{after, legal}
use Rattle.dq_machine.specs.State.{no_work}
use Rattle.dq_laws.specs.Settled.{IsOver}
use Rattle.dq_fates.proofs.tests.one_lane_is_left.Goals as goal

abbrev two : List (List Step)
two = [] ∷ [] ∷ []

abbrev with_lanes : LoadedFiles → List (List Step) → LoadedFiles
with_lanes l lanes = record l { script = record l.script { lanes = lanes } }

by_lanes : (P : LoadedFiles → Type 0) (l : LoadedFiles) → l.script.lanes ≡ two → P (with_lanes l two) → P l
by_lanes P l lanes h = subst P (sym (ap (with_lanes l) lanes)) h

ends : (l : LoadedFiles) → l.script.lanes ≡ two → legal l (End 2 ∷ []) ≡ true
unfolding legal
ends l lanes = by_lanes (λ x. legal x (End 2 ∷ []) ≡ true) l lanes refl

both_end : (l : LoadedFiles) → l.script.lanes ≡ two → legal l (End 2 ∷ End 1 ∷ []) ≡ true
unfolding legal
both_end l lanes = by_lanes (λ x. legal x (End 2 ∷ End 1 ∷ []) ≡ true) l lanes refl

none_own : (i : ℕ) → list_any (nat_eq 0) (get_or (no_work ∷ record no_work { ended = true } ∷ []) i no_work).own ≡ false
none_own zero = refl
none_own (suc zero) = refl
none_own (suc (suc i)) = refl

over : (l : LoadedFiles) → l.script.lanes ≡ two → IsOver (after l (End 2 ∷ [])) 0
unfolding after
over l lanes = by_lanes (λ x. IsOver (after x (End 2 ∷ [])) 0) l lanes (record { started = omega arith; left = λ lane. none_own (lane - 1) })

pub own_flights_have_not_fallen-requires : goal.own_flights_have_not_fallen-requires
own_flights_have_not_fallen-requires c = record { legal = ends c.in_ok-loaded.loaded c.in_ok-loaded.ensures }

pub given_flights_lost_few-requires : goal.given_flights_lost_few-requires
given_flights_lost_few-requires c = record { legal = ends c.in_ok-loaded.loaded c.in_ok-loaded.ensures }

pub flights_end_as_told-requires : goal.flights_end_as_told-requires
flights_end_as_told-requires c = record { legal = ends c.in_ok-loaded.loaded c.in_ok-loaded.ensures }

pub ended_flights_are_over-requires : goal.ended_flights_are_over-requires
ended_flights_are_over-requires c = record { legal = ends c.in_ok-loaded.loaded c.in_ok-loaded.ensures }

pub over_flights_stay-requires-clause-legal : goal.over_flights_stay-requires-clause-legal
over_flights_stay-requires-clause-legal c = both_end c.in_ok-loaded.loaded c.in_ok-loaded.ensures

pub over_flights_stay-requires-clause-over : goal.over_flights_stay-requires-clause-over
over_flights_stay-requires-clause-over c = over c.in_ok-loaded.loaded c.in_ok-loaded.ensures
