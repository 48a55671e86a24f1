-- What one more entry of the lane leaves of the flight that it brings.
use Rattle.std.proofs.Common.{◌≡◌, ◌≢◌, ℕ, ◌-◌, ◌<◌, true, false, List, [], ◌∷◌, ◌++◌, drop, find, length, refl, ap, ◌∙◌, arith}
use Rattle.std.proofs.lemmas.List.{get_or-set_same}
use Rattle.dq_extract.specs.Loads.{LoadedFiles}
use Rattle.dq_journal.specs.Journals.{lane_of}
use Rattle.dq_journal.specs.declared.entry.Entry.{Entry}
use Rattle.dq_laws.proofs.Pushed.{pushed}
use Rattle.dq_laws.specs.Settled.{IsOver, brings}
use Rattle.dq_fates.specs.Dials.{is_undialled}
use Rattle.dq_machine.proofs.Reached.{allowed_above, allowed_within}
use Rattle.dq_machine.specs.Machine.{after, allowed, flights_by, legal, next, versions_by, work_by}
use Rattle.dq_machine.specs.State.{Flights, New, State, Work, flight_at, is_first, is_numbered, no_work, work_of}
use Rattle.dq_trial.specs.Links.{LinkTells}
use Rattle.dq_bring.specs.Flights.{IsBringing}
use Rattle.dq_bring.specs.Phases.{IsPhaseAt, is_untold}
use Rattle.dq_bring.specs.Told.{Ends, Enters, Goes, IsEnding, StaysBeside}
use Rattle.dq_bring.specs.declared.phase.Phase.{Phase}
use Rattle.dq_bring.specs.declared.telling.Ending.{Ending}

there : (l : LoadedFiles) (s : State) (e : Entry) → allowed l s e ≡ true → lane_of e - 1 < length s.works
there l s e a = omega (arith, allowed_above l s e a, allowed_within l s e a)

module _ {L : Type 0} (tells : LinkTells L) (l : LoadedFiles) (e : Entry) (flight losses : ℕ) (old new : List Entry) (p : Phase L)
    (h : IsBringing tells l (lane_of e) flight losses old p) (lawful : legal l (old ++ e ∷ []) ≡ true) (is : new ≡ old ++ e ∷ []) where
  abbrev s : State
  s = after l old

  -- the lane's work, before and after it
  abbrev w : Work
  w = work_of s (lane_of e)

  abbrev v : Work
  v = work_by l s w e

  next_is : after l new ≡ next l s e
  next_is = ap (after l) is ∙ (pushed l old e lawful).after

  pub work_is : work_of (after l new) (lane_of e) ≡ v
  work_is = ap (λ t. work_of t (lane_of e)) next_is ∙ get_or-set_same s.works (lane_of e - 1) v no_work (there l s e (pushed l old e lawful).allowed)

  flights_are : (after l new).flights ≡ flights_by l s w e
  flights_are = ap (λ t. t.flights) next_is

  versions_are : (after l new).versions ≡ versions_by l s e
  versions_are = ap (λ t. t.versions) next_is

  enters_by : brings flight e ≡ true → is_undialled (lane_of e) e ≡ is_untold p → Enters (lane_of e) flight (is_untold p) old new
  enters_by brought undialled = record { entry = e; is = is; of_lane = refl; brings = brought; undialled = undialled }

  beside_by : StaysBeside w v → StaysBeside w (work_of (after l new) (lane_of e))
  beside_by beside = rw work_is beside

  pub Goes-push : (lost : ℕ) (q : Phase L) → brings flight e ≡ true → is_undialled (lane_of e) e ≡ is_untold p → is_untold q ≡ false → v.own ≡ w.own → StaysBeside w v
      → flights_by l s w e ≡ s.flights → versions_by l s e ≡ s.versions
      → IsPhaseAt tells (record { loaded = l; versions = s.versions; key = h.key; stamp = h.stamp; course = v.phase; losses = lost }) v.phase q
      → Goes tells l (lane_of e) flight (is_untold p) old new lost q
  Goes-push lost q brought undialled told own beside flights versions phase =
      let same : (after l new).flights ≡ s.flights = flights_are ∙ flights in
      record {
        enters = enters_by brought undialled;
        bringing = record {
          legal = ap (legal l) is ∙ lawful;
          there = h.there;
          first = ap (λ (x : Work). is_first x.own flight) work_is ∙ ap (λ own. is_first own flight) own ∙ h.first;
          key = h.key;
          stamp = h.stamp;
          asked = rw same h.asked;
          phase = rw (work_is, versions_are ∙ versions) phase;
        };
        untold = told;
        own = ap (λ (x : Work). x.own) work_is ∙ own;
        beside = beside_by beside;
        flights = same;
      }

  pub Ends-push : (ending : Ending) → brings flight e ≡ true → is_undialled (lane_of e) e ≡ is_untold p → v.own ≡ drop 1 w.own → v.phase ≡ New 0 → StaysBeside w v
      → ((number : ℕ) → number ≢ flight → find (is_numbered number) (flights_by l s w e).flown ≡ flight_at s number) → (flights_by l s w e).started ≡ s.flights.started
      → IsOver (after l new) flight → IsEnding l old new flight ending → Ends l (lane_of e) flight (is_untold p) old new ending
  Ends-push ending brought undialled own course beside others started over ended = record {
    enters = enters_by brought undialled;
    own = ap (λ (x : Work). x.own) work_is ∙ own;
    course = ap (λ (x : Work). x.phase) work_is ∙ course;
    beside = beside_by beside;
    others = λ number ne. ap (λ (f : Flights). find (is_numbered number) f.flown) flights_are ∙ others number ne;
    started = ap (λ (f : Flights). f.started) flights_are ∙ started;
    over = over;
    ending = ended;
  }
