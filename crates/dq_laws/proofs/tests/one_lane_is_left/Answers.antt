use Rattle.std.proofs.Common.{◌≡◌, ℕ, zero, suc, ◌-◌, true, false, List, [], ◌∷◌, get_or, refl, ap, sym, subst, arith}
use Rattle.std.specs.List.{list_any}
use Rattle.std.specs.Prelude.{nat_eq}
use Rattle.dq_base.specs.declared.script.Step.{Step}
use Rattle.dq_extract.specs.Loads.{LoadedFiles}
use Rattle.dq_journal.specs.declared.entry.Entry.TheVariants.{End}
use Rattle.dq_machine.specs.Machine.{after, legal}
use Rattle.dq_machine.specs.State.{no_work, work_of}
use Rattle.dq_laws.specs.Settled.{IsOver}
use Rattle.dq_laws.proofs.tests.one_lane_is_left.Goals as goal

abbrev two : List (List Step)
two = [] ∷ [] ∷ []

abbrev with_lanes : LoadedFiles → List (List Step) → LoadedFiles
with_lanes l lanes = record l { script = record l.script { lanes = lanes } }

by_lanes : (P : LoadedFiles → Type 0) (l : LoadedFiles) → l.script.lanes ≡ two → P (with_lanes l two) → P l
by_lanes P l lanes h = subst P (sym (ap (with_lanes l) lanes)) h

ends : (l : LoadedFiles) → l.script.lanes ≡ two → legal l (End 2 ∷ []) ≡ true
unfolding legal
ends l lanes = by_lanes (λ x. legal x (End 2 ∷ []) ≡ true) l lanes refl

unended : (l : LoadedFiles) → l.script.lanes ≡ two → (work_of (after l (End 2 ∷ [])) 1).ended ≡ false
unfolding after
unended l lanes = by_lanes (λ x. (work_of (after x (End 2 ∷ [])) 1).ended ≡ false) l lanes refl

both_end : (l : LoadedFiles) → l.script.lanes ≡ two → legal l (End 2 ∷ End 1 ∷ []) ≡ true
unfolding legal
both_end l lanes = by_lanes (λ x. legal x (End 2 ∷ End 1 ∷ []) ≡ true) l lanes refl

none_own : (i : ℕ) → list_any (nat_eq 0) (get_or (no_work ∷ record no_work { ended = true } ∷ []) i no_work).own ≡ false
none_own zero = refl
none_own (suc zero) = refl
none_own (suc (suc i)) = refl

over : (l : LoadedFiles) → l.script.lanes ≡ two → IsOver (after l (End 2 ∷ [])) 0
unfolding after
over l lanes = by_lanes (λ x. IsOver (after x (End 2 ∷ [])) 0) l lanes (record { started = omega arith; left = λ lane. none_own (lane - 1) })

pub some_lane_goes_on-requires-clause-legal : goal.some_lane_goes_on-requires-clause-legal
some_lane_goes_on-requires-clause-legal c = ends c.in_ok-loaded.loaded c.in_ok-loaded.ensures

pub some_lane_goes_on-requires-clause-unended : goal.some_lane_goes_on-requires-clause-unended
some_lane_goes_on-requires-clause-unended c = unended c.in_ok-loaded.loaded c.in_ok-loaded.ensures

pub running_flights_are_own-requires : goal.running_flights_are_own-requires
running_flights_are_own-requires c = record { legal = ends c.in_ok-loaded.loaded c.in_ok-loaded.ensures }

pub joined_flights_stay-requires : goal.joined_flights_stay-requires
joined_flights_stay-requires c = record { legal = ends c.in_ok-loaded.loaded c.in_ok-loaded.ensures }

pub links_are_few-requires : goal.links_are_few-requires
links_are_few-requires c = record { legal = ends c.in_ok-loaded.loaded c.in_ok-loaded.ensures }

pub links_differ-requires : goal.links_differ-requires
links_differ-requires c = record { legal = ends c.in_ok-loaded.loaded c.in_ok-loaded.ensures }

pub counts_are_few-requires : goal.counts_are_few-requires
counts_are_few-requires c = record { legal = ends c.in_ok-loaded.loaded c.in_ok-loaded.ensures }

pub calls_are_few-requires : goal.calls_are_few-requires
calls_are_few-requires c = record { legal = ends c.in_ok-loaded.loaded c.in_ok-loaded.ensures }

pub journals_are_short-requires : goal.journals_are_short-requires
journals_are_short-requires c = record { legal = ends c.in_ok-loaded.loaded c.in_ok-loaded.ensures }

pub owed_room_lasts-requires : goal.owed_room_lasts-requires
owed_room_lasts-requires c = record { legal = ends c.in_ok-loaded.loaded c.in_ok-loaded.ensures }

pub flights_are_numbered-requires : goal.flights_are_numbered-requires
flights_are_numbered-requires c = record { legal = ends c.in_ok-loaded.loaded c.in_ok-loaded.ensures }

pub flights_are_few-requires : goal.flights_are_few-requires
flights_are_few-requires c = record { legal = ends c.in_ok-loaded.loaded c.in_ok-loaded.ensures }

pub losses_are_few-requires : goal.losses_are_few-requires
losses_are_few-requires c = record { legal = ends c.in_ok-loaded.loaded c.in_ok-loaded.ensures }

pub stamps_are_published-requires : goal.stamps_are_published-requires
stamps_are_published-requires c = record { legal = ends c.in_ok-loaded.loaded c.in_ok-loaded.ensures }

pub flights_lose_few-requires : goal.flights_lose_few-requires
flights_lose_few-requires c = record { legal = ends c.in_ok-loaded.loaded c.in_ok-loaded.ensures }

pub keys_are_valid-requires : goal.keys_are_valid-requires
keys_are_valid-requires c = record { legal = ends c.in_ok-loaded.loaded c.in_ok-loaded.ensures }

pub own_flights_run-requires : goal.own_flights_run-requires
own_flights_run-requires c = record { legal = ends c.in_ok-loaded.loaded c.in_ok-loaded.ensures }

pub other_lanes_stay-requires-clause-legal : goal.other_lanes_stay-requires-clause-legal
other_lanes_stay-requires-clause-legal c = ends c.in_ok-loaded.loaded c.in_ok-loaded.ensures

pub idle_lanes_stay-requires-clause-legal : goal.idle_lanes_stay-requires-clause-legal
idle_lanes_stay-requires-clause-legal c = ends c.in_ok-loaded.loaded c.in_ok-loaded.ensures

pub left_flights_are_over-requires-clause-legal : goal.left_flights_are_over-requires-clause-legal
left_flights_are_over-requires-clause-legal c = both_end c.in_ok-loaded.loaded c.in_ok-loaded.ensures

pub left_flights_are_over-requires-clause-over : goal.left_flights_are_over-requires-clause-over
left_flights_are_over-requires-clause-over c = over c.in_ok-loaded.loaded c.in_ok-loaded.ensures

pub fates_are_settled-requires-clause-legal : goal.fates_are_settled-requires-clause-legal
fates_are_settled-requires-clause-legal c = both_end c.in_ok-loaded.loaded c.in_ok-loaded.ensures

pub fates_are_settled-requires-clause-over : goal.fates_are_settled-requires-clause-over
fates_are_settled-requires-clause-over c = over c.in_ok-loaded.loaded c.in_ok-loaded.ensures
