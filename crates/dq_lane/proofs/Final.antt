-- The results of a lane.
use Rattle.std.proofs.Common.{◌≡◌, ℕ, ◌+◌, ◌≤◌, Bool, true, false, ◌&&◌, List, [], ◌∷◌, ◌++◌, length, map, take, take_all, Option, refl, ap, sym, ◌∙◌, arith}
use Rattle.std.proofs.lemmas.Bool.{eq-eqb}
use Rattle.std.proofs.lemmas.List.{length-take-le}
use Rattle.std.specs.Cmp.Lexicographic.{pointwise}
use Rattle.std.specs.List.{flat_map}
use Rattle.std.specs.Prelude.{nat_eq}
use Rattle.dq_base.specs.declared.script.Fails.{Fails}
use Rattle.dq_extract.specs.Loads.{LoadedFiles}
use Rattle.dq_fates.proofs.GoingOn.{entries_stay}
use Rattle.dq_fates.specs.Dials.{lost_dials}
use Rattle.dq_fates.specs.GoingOn.{GoesOn}
use Rattle.dq_journal.specs.Steps.{done_from, entries_of, step_in}
use Rattle.dq_journal.specs.declared.entry.Entry.{Entry}
use Rattle.dq_journal.specs.declared.result.StepResult.{StepResult}
use Rattle.dq_machine.specs.Machine.{legal}
use Rattle.dq_machine.specs.Order.{ends_once, tell_places}
use Rattle.dq_machine.specs.Right.{AreResults}
use Rattle.dq_lane.specs.Courses.{IsShut}
use Rattle.dq_lane.specs.Kept.{IsLane, IsProgress, IsTold}
use Rattle.dq_lane.specs.Order.{named_from, places_tell}
use Rattle.dq_lane.specs.Right.{IsRightFrom, IsRightSoFar}
use Rattle.dq_lane.specs.View.{closed_by, closed_of, is_untold, place_of, places_of, steps_of}
use Rattle.dq_lane.specs.declared.course.Course.{Course}
use Rattle.dq_lane.specs.declared.progress.Progress.{Progress}
use Rattle.dq_lane.specs.declared.progress.Progress.TheVariants as progress
use Rattle.dq_lane.proofs.Kept.{shut_closed, shut_places}
use Rattle.dq_lane.proofs.Places.{tell_on}
use Rattle.dq_lane.proofs.Results.{all_tell, done_named}

pub done_shut : {L : Type 0} (l : LoadedFiles) (lane : ℕ) (seen : List Entry) (taken : ℕ) (p : Progress L) → IsProgress l lane seen taken true p → IsShut p
done_shut l lane seen taken progress.Fresh h = tt
done_shut l lane seen taken progress.Ready h = tt
done_shut l lane seen taken (progress.Prepared p) h = tt
done_shut l lane seen taken (progress.Open b) h = let bad : true ≡ false = h.going in cc

same_number : (x : ℕ) → nat_eq x x ≡ true
same_number x = eq-eqb x x refl

same_numbers : (xs : List ℕ) → pointwise nat_eq xs xs ≡ true
same_numbers [] = refl
same_numbers (x ∷ xs) = rw (same_number x) (same_numbers xs)

closed_within : {L : Type 0} (taken : ℕ) (p : Progress L) → closed_by taken p ≤ taken
closed_within taken progress.Fresh = omega arith
closed_within taken progress.Ready = omega arith
closed_within taken (progress.Prepared p) = omega arith
closed_within taken (progress.Open b) = omega arith

module _ {L : Type 0} (l : LoadedFiles) (lane : ℕ) (seen : List Entry) (c : Course L) (faults : ℕ) (plan : Option Fails) (h : IsLane l lane seen c faults plan) where
  pub dials_are : lost_dials lane seen ≤ faults
  dials_are = omega (arith, h.dialer.dials)

  pub right_so_far : IsRightSoFar l lane seen (take (closed_of c) c.results)
  right_so_far =
      let within = closed_within c.taken c.progress in
      let count : length (take (closed_of c) c.results) ≡ closed_of c = length-take-le (closed_of c) c.results (omega (arith, within, h.within, h.count)) in
      record { on = λ more lawful. rw count (h.results.right more lawful) }

  -- once it is done
  module _ (done : c.done ≡ true) where
    shut : IsShut c.progress
    shut = done_shut l lane seen c.taken c.progress (rw done at h.progress)

    all : take (closed_of c) c.results ≡ c.results
    all = ap (λ k. take k c.results) (shut_closed c.progress c.taken shut) ∙ take_all c.taken c.results (omega (arith, h.over done, h.count))

    all_steps : take (closed_of c) (steps_of l lane) ≡ steps_of l lane
    all_steps = ap (λ k. take k (steps_of l lane)) (shut_closed c.progress c.taken shut) ∙ take_all c.taken (steps_of l lane) (omega (arith, h.over done))

    all_places : places_of c ≡ map place_of c.results
    all_places = shut_places c shut ∙ ap (map place_of) (take_all c.taken c.results (omega (arith, h.over done, h.count)))

    right_on : (more : List Entry) → legal l (seen ++ more) ≡ true → AreResults l (seen ++ more) lane (steps_of l lane) c.results
    right_on more lawful = rw (all, all_steps) at h.results.right more lawful

    right_all : IsRightFrom l lane seen c.results
    right_all = record {
      on = λ journal lawful on.
          let right : AreResults l journal lane (steps_of l lane) c.results = rw on.is (right_on on.more (rw on.is at lawful)) in
          let same = entries_stay lane seen journal on in
          let told : IsTold l lane seen true (map place_of c.results) = rw (all_places, done) at h.told in
          let order : flat_map step_in (entries_of lane journal) ≡ done_from 1 c.results = rw same (told.order ∙ sym (done_named 1 c.results)) in
          let tells : tell_places journal lane 1 (steps_of l lane) c.results ≡ true =
          all_tell l journal lane 1 (steps_of l lane) c.results right ∙ rw on.is (tell_on seen on.more lane 1 (steps_of l lane) (map place_of c.results) told.tells) in
          let ends : ends_once (entries_of lane journal) ≡ true = rw same told.ends in
          record { right = right; keeps = rw (tells, order, same_numbers (done_from 1 c.results)) ends };
    }

  pub right_from : c.done ≡ true → IsRightFrom l lane seen (take (closed_of c) c.results)
  right_from done = rw (all done) (right_all done)
