-- A turn of a lane that has no batch under way.
use Rattle.std.proofs.Common.{◌≡◌, ℕ, ◌+◌, ◌-◌, ◌<◌, ◌≤◌, ◌^◌, inl, inr, Bool, true, false, eqb, ◌&&◌, List, [], ◌∷◌, ◌++◌, length, map, take, slice_get, slice_set, Option, Some, None, refl, ap, sym, ◌∙◌, arith, append-nil}
use Rattle.std.proofs.lemmas.Bool.{eq-eqb}
use Rattle.std.proofs.lemmas.Option.{slice_get_within}
use Rattle.dq_base.specs.Scripts.{numbered, step_of, zones_of}
use Rattle.dq_base.specs.declared.script.Fails.{Fails}
use Rattle.dq_base.specs.declared.script.Step.{Step}
use Rattle.dq_base.specs.declared.script.Step.TheVariants as step
use Rattle.dq_batch.specs.Turns.{IsAdmission}
use Rattle.dq_batch.specs.Views.{BatchOf}
use Rattle.dq_extract.specs.Loads.{LoadedFiles}
use Rattle.dq_journal.specs.Journals.{lane_of}
use Rattle.dq_journal.specs.Steps.{step_in}
use Rattle.dq_journal.specs.declared.entry.Entry.{Entry}
use Rattle.dq_journal.specs.declared.entry.Entry.TheVariants.{Publish, Admit, End}
use Rattle.dq_journal.specs.declared.result.StepResult.{StepResult}
use Rattle.dq_journal.specs.declared.result.StepResult.TheVariants.{Published}
use Rattle.dq_laws.specs.Lengths.{most_entries_of_journal}
use Rattle.dq_machine.specs.Admitting.{admission_of}
use Rattle.dq_machine.specs.Machine.{after, legal, work_by}
use Rattle.dq_machine.specs.Order.{admits, publishes}
use Rattle.dq_machine.specs.Right.{IsResult}
use Rattle.dq_machine.specs.State.{is_free, work_of}
use Rattle.dq_lane.specs.Courses.{CanSettle, IsShut, settled}
use Rattle.dq_lane.specs.Events.{HasAdmitted, HasPublished, IsEvent}
use Rattle.dq_lane.specs.Kept.{IsLane, IsOpenLast, IsProgress, is_idle}
use Rattle.dq_lane.specs.Turns.{IsTurn}
use Rattle.dq_lane.specs.View.{lane_view, place_of, places_of, steps_of}
use Rattle.dq_lane.specs.declared.course.Course.{Course}
use Rattle.dq_lane.specs.declared.event.Event.{Event}
use Rattle.dq_lane.specs.declared.event.Event.TheVariants as event
use Rattle.dq_lane.specs.declared.lane.Stepped.TheVariants.{Moved}
use Rattle.dq_lane.specs.declared.progress.Progress.{Progress}
use Rattle.dq_lane.specs.declared.progress.Progress.TheVariants as progress
use Rattle.dq_lane.proofs.Kept.{IsLane-admitted, IsLane-ended, IsLane-published, IsLane-refused, length_places, shut_closed, shut_places}
use Rattle.dq_lane.proofs.Limits.{batch_is, lane_above, next_is, over_at, publish_is, step_is}
use Rattle.dq_lane.proofs.Places.{numbered_last}
use Rattle.dq_lane.proofs.Refused.{no_place, refusal_at}
use Rattle.dq_lane.proofs.Results.{places_more, places_set}
use Rattle.dq_lane.proofs.Told.{NamesNext}
use Rattle.dq_lane.proofs.Works.{free_of, work_set}

shut_idle : {L : Type 0} (l : LoadedFiles) (lane : ℕ) (seen : List Entry) (taken : ℕ) (done : Bool) (p : Progress L) → IsShut p → IsProgress l lane seen taken done p → is_idle (work_of (after l seen) lane) ≡ true
shut_idle l lane seen taken done progress.Fresh shut h = h.0
shut_idle l lane seen taken done progress.Ready shut h = h
shut_idle l lane seen taken done (progress.Prepared p) shut h = h.0
shut_idle l lane seen taken done (progress.Open b) shut h = absurd shut

same_names : (lane n k : ℕ) → n ≡ k → (eqb lane lane && eqb n k) ≡ true
same_names lane n k e = rw (eq-eqb lane lane refl, eq-eqb n k e) refl

module _ {L : Type 0} (l : LoadedFiles) (lane : ℕ) (old : List Entry) (c : Course L) (faults : ℕ) (plan : Option Fails) (h : IsLane l lane old c faults plan) (shut : IsShut c.progress) (going : c.done ≡ false) where
  abbrev places : List (Option ℕ)
  places = map place_of (take c.taken c.results)

  few : length places ≡ c.taken
  few = length_places c.taken c.results (omega (arith, h.within, h.count))

  idle : is_idle (work_of (after l old) lane) ≡ true
  idle = shut_idle l lane old c.taken c.done c.progress shut h.progress

  pub free : is_free (work_of (after l old) lane) ≡ true
  free = free_of (work_of (after l old) lane) (h.told.ended ∙ going) idle

  below : (s : Step) → step_of l.script.lanes lane (c.taken + 1) ≡ Some s → c.taken < length (steps_of l lane)
  below s e = slice_get_within (steps_of l lane) c.taken s (next_is l lane c.taken (Some s) e)

  can_next : (s : Step) → step_of l.script.lanes lane (c.taken + 1) ≡ Some s → (c.taken + 1 < 2 ^ 32) × (c.taken < length c.results)
  can_next s e = let lt = below s e in (omega (arith, lt, h.few), omega (arith, lt, h.count))

  pub can_settle : (new : List Entry) (e : Event L) → IsEvent l lane (c.taken + 1) old new e → CanSettle c e
  can_settle new event.Refused ev = let s = step_is _ ev.0 in (can_next s.0 s.1).0
  can_settle new (event.Published place) ev = let s = publish_is _ ev.kind in can_next _ s.3
  can_settle new (event.Admitted b) ev = (can_next _ (batch_is _ ev.kind)).0
  can_settle new event.Ended ev = tt

  -- the entry of a publication

  module _ (new : List Entry) (lawful : legal l new ≡ true) (short : length new ≤ most_entries_of_journal) where
    names_publish : (place source : ℕ) (how file : _) → HasPublished l lane (c.taken + 1) old new place → step_of l.script.lanes lane (c.taken + 1) ≡ Some (step.Publish source how file)
        → NamesNext l lane old places (step.Publish source how file) (Publish lane (c.taken + 1))
    names_publish place source how file ev kind =
        let e = Publish lane (c.taken + 1) in
        let w = work_set l old e (rw ev.journal at lawful) in
        let number : c.taken + 1 ≡ 1 + length places = omega (arith, few) in
        record {
          own = refl;
          at = rw few (next_is l lane c.taken _ kind);
          names = rw few refl;
          tells = ap (publishes lane (1 + length places)) (numbered_last old e) ∙ same_names lane (c.taken + 1) (1 + length places) number;
          goes = refl;
          legal = rw ev.journal at lawful;
          ended = rw w (h.told.ended ∙ going);
          short = rw ev.journal at short;
        }

    published_lane : (place : ℕ) → HasPublished l lane (c.taken + 1) old new place → IsLane l lane new (settled c (event.Published place)) faults plan
    published_lane place ev =
        let s = publish_is _ ev.kind in
        let e = Publish lane (c.taken + 1) in
        let w = work_set l old e (rw ev.journal at lawful) in
        let last : place ≡ length (old ++ e ∷ []) = rw ev.journal at ev.last in
        rw ev.journal (IsLane-published l lane old c faults plan h shut going (step.Publish s.0 s.1 s.2) (Published place) e (names_publish place s.0 s.1 s.2 ev s.3) (ap Some last)
        (λ more. tt) refl (rw w refl) (rw w idle))

    -- that of an admission

    names_admit : (b : BatchOf) → (ev : HasAdmitted l lane (c.taken + 1) old new b)
        → NamesNext l lane old places (step.Batch (zones_of (step_of l.script.lanes lane (c.taken + 1)))) (Admit lane (c.taken + 1) (admission_of l (after l old) lane (c.taken + 1)).met)
    names_admit b ev =
        let e = Admit lane (c.taken + 1) (admission_of l (after l old) lane (c.taken + 1)).met in
        let w = work_set l old e (rw ev.admission.journal at lawful) in
        let number : c.taken + 1 ≡ 1 + length places = omega (arith, few) in
        record {
          own = refl;
          at = rw few (next_is l lane c.taken _ (batch_is _ ev.kind));
          names = rw few refl;
          tells = ap (admits lane (1 + length places)) (numbered_last old e) ∙ same_names lane (c.taken + 1) (1 + length places) number;
          goes = refl;
          legal = rw ev.admission.journal at lawful;
          ended = rw w (h.told.ended ∙ going);
          short = rw ev.admission.journal at short;
        }

    admitted_lane : (b : BatchOf) → HasAdmitted l lane (c.taken + 1) old new b → IsLane l lane new (settled c (event.Admitted b)) faults plan
    admitted_lane b ev =
        let e = Admit lane (c.taken + 1) (admission_of l (after l old) lane (c.taken + 1)).met in
        let w = work_set l old e (rw ev.admission.journal at lawful) in
        let place : b.place ≡ length (old ++ e ∷ []) = rw ev.admission.journal at ev.admission.place in
        let opened : IsOpenLast l lane (old ++ e ∷ []) (c.taken + 1) false b = record {
          some = omega arith;
          going = refl;
          loaded = ev.admission.loaded;
          lane = ev.admission.lane_is;
          step = ev.admission.step_is;
          seen = rw ev.admission.journal at ev.admission.seen;
          kind = ev.kind;
        } in
        rw ev.admission.journal (IsLane-admitted l lane old c faults plan h shut going _ b e (names_admit b ev) place ev.admission.untold refl (rw w refl) opened)

    ended_lane : IsEvent {L = L} l lane (c.taken + 1) old new event.Ended → IsLane l lane new (settled c event.Ended) faults plan
    ended_lane ev =
        let w = work_set l old (End lane) (rw ev.1 at lawful) in
        rw ev.1 (IsLane-ended l lane old c faults plan h shut going (next_is l lane c.taken None ev.0) (rw ev.1 at lawful) (rw w refl) (rw w h.last) (rw w idle) (rw ev.1 at short))

    pub settled_lane : (e : Event L) → IsEvent l lane (c.taken + 1) old new e → IsLane l lane new (settled c e) faults plan
    settled_lane event.Refused ev =
        let s = step_is _ ev.0 in
        rw ev.1 (IsLane-refused l lane old c faults plan h shut going s.0 (next_is l lane c.taken _ s.1) idle)
    settled_lane (event.Published place) ev = published_lane place ev
    settled_lane (event.Admitted b) ev = admitted_lane b ev
    settled_lane event.Ended ev = ended_lane ev

    -- what contracts see of the turn

    same_places : places_of c ≡ places
    same_places = shut_places c shut

    count_places : length (places_of c) ≡ c.taken
    count_places = ap (λ ps. length ps) same_places ∙ few

    published_places : (place : ℕ) → c.taken < length c.results → places_of (settled c (event.Published place)) ≡ places_of c ++ Some place ∷ []
    published_places place lt =
        append-nil (map place_of (take (c.taken + 1) (slice_set c.results c.taken (Published place))))
        ∙ places_set c.taken c.results (Published place) lt
        ∙ ap (λ ps. ps ++ Some place ∷ []) (sym same_places)

    admitted_places : (b : BatchOf) → places_of (settled c (event.Admitted b)) ≡ places_of c ++ Some b.place ∷ []
    admitted_places b =
        let back : c.taken + 1 - 1 ≡ c.taken = omega arith in
        rw back (ap (λ ps. ps ++ Some b.place ∷ []) (sym same_places))

    refused_places : (s : Step) → slice_get (steps_of l lane) c.taken ≡ Some s → places_of (settled c event.Refused) ≡ places_of c ++ None ∷ []
    refused_places s at =
        let results = rw (shut_closed c.progress c.taken shut) at h.results.to_come in
        let r = refusal_at l.script.schemas c.taken (steps_of l lane) c.results s results at h.count in
        append-nil (map place_of (take (c.taken + 1) c.results))
        ∙ places_more c.taken c.results r.0 r.1
        ∙ ap (λ p. places ++ p ∷ []) (no_place l.script.schemas s r.0 r.2)
        ∙ ap (λ ps. ps ++ None ∷ []) (sym same_places)

    pub turn_of : (seen : List Entry) (e : Event L) → IsEvent l lane (c.taken + 1) old new e → IsTurn Moved (lane_view l lane seen c) (lane_view l lane new (settled c e)) old new
    turn_of seen event.Refused ev =
        let s = step_is _ ev.0 in
        let lt = below s.0 s.1 in (
          going,
          inl (record {
            journal = ev.1;
            free = free;
            below = omega (arith, lt, count_places);
            places = refused_places s.0 (next_is l lane c.taken _ s.1);
            going = going;
          }),
        )
    turn_of seen (event.Published place) ev =
        let s = publish_is _ ev.kind in
        let lt = below _ s.3 in (
          going,
          inr (inl (record {
            entry = Publish lane (c.taken + 1);
            names = rw count_places refl;
            of_lane = refl;
            journal = ev.journal;
            below = omega (arith, lt, count_places);
            places = rw (← ev.last) (published_places place (omega (arith, lt, h.count)));
            going = going;
          })),
        )
    turn_of seen (event.Admitted b) ev =
        let lt = below _ (batch_is _ ev.kind) in (
          going,
          inr (inl (record {
            entry = Admit lane (c.taken + 1) (admission_of l (after l old) lane (c.taken + 1)).met;
            names = rw count_places refl;
            of_lane = refl;
            journal = ev.admission.journal;
            below = omega (arith, lt, count_places);
            places = rw (← ev.admission.place) (admitted_places b);
            going = going;
          })),
        )
    turn_of seen event.Ended ev =
        let over = over_at (steps_of l lane) c.taken (next_is l lane c.taken None ev.0) h.within in (
          going,
          inr (inr (inr (record {
            journal = ev.1;
            over = count_places ∙ over;
            places = append-nil places ∙ sym same_places;
            done = refl;
          }))),
        )
