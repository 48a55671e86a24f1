-- The work of a lane, and the turns of its batch under way.
use Rattle.std.proofs.Common.{◌≡◌, ℕ, ◌+◌, ◌-◌, ◌<◌, ◌≤◌, ◌^◌, min, inl, inr, Bool, true, false, ◌||◌, List, [], ◌∷◌, ◌++◌, length, map, take, slice_get, slice_set, Option, Some, None, refl, ap, sym, ◌∙◌, arith, append-nil, length-append, subst}
use Rattle.std.proofs.lemmas.Option.{slice_get_within}
use Rattle.std.specs.Prelude.{◌⊎◌, MatchBool}
use Rattle.dq_base.specs.Causes.{Rose}
use Rattle.dq_base.specs.Scripts.{step_of, zones_of}
use Rattle.dq_base.specs.declared.script.Fails.{Fails}
use Rattle.dq_base.specs.declared.script.Step.{Step}
use Rattle.dq_base.specs.declared.script.Step.TheVariants as step
use Rattle.dq_batch.specs.Courses.{Moves}
use Rattle.dq_batch.specs.Turns.{HasGone, HasStood}
use Rattle.dq_batch.specs.Views.{BatchOf}
use Rattle.dq_bring.specs.Dials.{UndialledBy}
use Rattle.dq_extract.specs.Loads.{LoadedFiles}
use Rattle.dq_fates.proofs.Dialled.{dials_within}
use Rattle.dq_fates.specs.Dials.{lost_dials}
use Rattle.dq_fates.specs.GoingOn.{GoesOn}
use Rattle.dq_journal.specs.Steps.{AreRefused}
use Rattle.dq_journal.specs.declared.entry.Entry.{Entry}
use Rattle.dq_journal.specs.declared.result.ZoneResult.{ZoneResult}
use Rattle.dq_journal.specs.declared.result.StepResult.{StepResult}
use Rattle.dq_journal.specs.declared.result.StepResult.TheVariants.{Published, Unpublished, Admitted, Unadmitted}
use Rattle.dq_laws.specs.Lengths.{most_entries_of_journal}
use Rattle.dq_machine.specs.Machine.{after, legal}
use Rattle.dq_machine.specs.Right.{IsResult}
use Rattle.dq_machine.specs.State.{is_free, work_of}
use Rattle.dq_lane.specs.Closing.{AreFinal, CanCloseIn, HasClosedAs, zones_in}
use Rattle.dq_lane.specs.Courses.{CanEnd, CanEndIn, CanEndWith, CanWorkIn, HasAnswered, HasEnded, HasEndedIn, HasPrepared, HasPreparedBy, HasWorked, HasWorkedIn, IsShut, StandsAt}
use Rattle.dq_lane.specs.Kept.{HasDialer, IsLane, IsOpenLast, IsProgress, is_idle, untold_count}
use Rattle.dq_lane.specs.Progress.{IsPreparedFor}
use Rattle.dq_lane.specs.Turns.{IsTurn}
use Rattle.dq_lane.specs.View.{LaneOf, is_pending, is_untold, lane_view, place_of, places_of, steps_of}
use Rattle.dq_lane.specs.declared.course.Course.{Course}
use Rattle.dq_lane.specs.declared.lane.Stepped.TheVariants.{Moved, Waits}
use Rattle.dq_lane.specs.declared.progress.Progress.{Progress}
use Rattle.dq_lane.specs.declared.progress.Progress.TheVariants as progress
use Rattle.dq_lane.proofs.Kept.{IsLane-closed, IsLane-dialled, IsLane-flown, IsLane-moved, IsLane-prepared, IsLane-waits, open_dialer, open_last, open_results}
use Rattle.dq_lane.proofs.Limits.{batch_is, next_is}
use Rattle.dq_lane.proofs.Places.{tell_more}
use Rattle.dq_lane.proofs.Refused.{refusal_at, unadmitted_is}
use Rattle.dq_lane.proofs.Results.{places_set}
use Rattle.dq_lane.proofs.Works.{idle_of}

-- dials

rose_more : (lost before now : ℕ) → Rose before now → lost ≤ before → lost + 1 < 2 ^ 64 → lost + 1 ≤ now
rose_more lost before now rose few short = omega (arith, rose, few, short)

pub dialer_worked : (l : LoadedFiles) (lane : ℕ) (seen : List Entry) (a b : Bool) (before now : ℕ) (plan plan' : Option Fails) → HasDialer l lane seen a before plan → UndialledBy a b before now → plan' ≡ plan
    → length seen ≤ most_entries_of_journal → HasDialer l lane seen b now plan'
dialer_worked l lane seen true true before now plan plan' h u same short = record { dials = omega (arith, h.dials, u); plan = rw same h.plan }
dialer_worked l lane seen true false before now plan plan' h u same short = absurd u
dialer_worked l lane seen false true before now plan plan' h u same short =
    let within = dials_within lane seen in
    record { dials = rose_more (lost_dials lane seen) before now u.1 (omega (arith, h.dials)) (omega (arith, within, short)); plan = rw same h.plan }
dialer_worked l lane seen false false before now plan plan' h u same short = record { dials = omega (arith, h.dials, u); plan = rw same h.plan }

-- the statement of the flight that the lane brings

can_work_by : {L : Type 0} (l : LoadedFiles) (lane : ℕ) (seen : List Entry) (c : Course L) (p : Progress L) (faults : ℕ) (plan : Option Fails) → IsLane l lane seen c faults plan → c.progress ≡ p → CanWorkIn p plan
can_work_by l lane seen c progress.Fresh faults plan h is = tt
can_work_by l lane seen c progress.Ready faults plan h is = tt
can_work_by l lane seen c (progress.Prepared p) faults plan h is = tt
can_work_by l lane seen c (progress.Open b) faults plan h is =
    let last = open_last l lane seen c b faults plan h is in
    rw (last.loaded, last.lane) h.dialer.plan

pub can_work : {L : Type 0} (l : LoadedFiles) (lane : ℕ) (seen : List Entry) (c : Course L) (faults : ℕ) (plan : Option Fails) → IsLane l lane seen c faults plan → CanWorkIn c.progress plan
can_work l lane seen c faults plan h = can_work_by l lane seen c c.progress faults plan h refl

worked_by : {L : Type 0} (l : LoadedFiles) (lane : ℕ) (seen : List Entry) (c d : Course L) (p : Progress L) (faults later : ℕ) (plan plan' : Option Fails) → IsLane l lane seen c faults plan → c.progress ≡ p
    → HasWorkedIn p c d → UndialledBy (is_untold c.progress) (is_untold d.progress) faults later → plan' ≡ plan → IsLane l lane seen d later plan'
worked_by l lane seen c d progress.Fresh faults later plan plan' h is w u same =
    let more : faults ≤ later = rw (w, is) at u in rw w (IsLane-dialled l lane seen c faults later plan plan' h more same)
worked_by l lane seen c d progress.Ready faults later plan plan' h is w u same =
    let more : faults ≤ later = rw (w, is) at u in rw w (IsLane-dialled l lane seen c faults later plan plan' h more same)
worked_by l lane seen c d (progress.Prepared p) faults later plan plan' h is w u same =
    let more : faults ≤ later = rw (w, is) at u in rw w (IsLane-dialled l lane seen c faults later plan plan' h more same)
worked_by l lane seen c d (progress.Open b) faults later plan plan' h is w u same =
    let told : UndialledBy b.untold w.0.untold faults later = rw (w.1, is) at u in
    let dialer = dialer_worked l lane seen b.untold w.0.untold faults later plan plan' (open_dialer l lane seen c b faults plan h is) told same h.told.short in
    rw w.1 (IsLane-flown l lane seen c b faults plan h is w.0 later plan' w.2 dialer)

pub worked_lane : {L : Type 0} (l : LoadedFiles) (lane : ℕ) (seen : List Entry) (c d : Course L) (faults later : ℕ) (plan plan' : Option Fails) → IsLane l lane seen c faults plan → HasWorked c d
    → UndialledBy (is_untold c.progress) (is_untold d.progress) faults later → plan' ≡ plan → IsLane l lane seen d later plan'
worked_lane l lane seen c d faults later plan plan' h w u same = worked_by l lane seen c d c.progress faults later plan plan' h refl w u same

-- the answers of a batch that is over

can_close : (l : LoadedFiles) (lane taken : ℕ) (b : BatchOf) (outcomes : List ZoneResult) → b.loaded ≡ l → b.lane ≡ lane → b.step ≡ taken
    → AreRefused l.script.schemas (zones_of (step_of l.script.lanes lane taken)) outcomes → CanCloseIn b (Unadmitted outcomes)
can_close l lane taken b outcomes loaded of_lane at refused = rw (loaded, of_lane, at) refused

can_end_with : {L : Type 0} (l : LoadedFiles) (lane : ℕ) (seen : List Entry) (c : Course L) (b : BatchOf) (faults : ℕ) (plan : Option Fails) → IsLane l lane seen c faults plan → c.progress ≡ progress.Open b
    → CanEndWith c.taken c.results b
can_end_with l lane seen c b faults plan h is =
    let last = open_last l lane seen c b faults plan h is in
    let results = open_results l lane seen c b faults plan h is in
    let up : c.taken - 1 + 1 ≡ c.taken = omega (arith, last.some) in
    let kind : step_of l.script.lanes lane (c.taken - 1 + 1) ≡ Some (step.Batch (zones_of (step_of l.script.lanes lane c.taken))) = rw up (batch_is _ last.kind) in
    let at = next_is l lane (c.taken - 1) _ kind in
    let r = refusal_at l.script.schemas (c.taken - 1) (steps_of l lane) c.results _ results.to_come at h.count in
    let u = unadmitted_is l.script.schemas _ r.0 r.2 in
    let can : CanCloseIn b (Unadmitted u.0) = can_close l lane c.taken b u.0 last.loaded last.lane last.step u.2 in
    (last.some, r.0, r.1, subst (CanCloseIn b) (sym u.1) can)

can_end_by : {L : Type 0} (l : LoadedFiles) (lane : ℕ) (seen : List Entry) (c : Course L) (p : Progress L) (faults : ℕ) (plan : Option Fails) → IsLane l lane seen c faults plan → c.progress ≡ p → CanEndIn c.taken c.results p
can_end_by l lane seen c progress.Fresh faults plan h is = tt
can_end_by l lane seen c progress.Ready faults plan h is = tt
can_end_by l lane seen c (progress.Prepared p) faults plan h is = tt
can_end_by l lane seen c (progress.Open b) faults plan h is = can_end_with l lane seen c b faults plan h is

pub can_end : {L : Type 0} (l : LoadedFiles) (lane : ℕ) (seen : List Entry) (c : Course L) (faults : ℕ) (plan : Option Fails) → IsLane l lane seen c faults plan → CanEnd c
can_end l lane seen c faults plan h = can_end_by l lane seen c c.progress faults plan h refl

closed_place : (b : BatchOf) (r : StepResult) → HasClosedAs b r → place_of r ≡ Some b.place
closed_place b (Published place) h = absurd h
closed_place b Unpublished h = absurd h
closed_place b (Admitted place outcomes) h = ap Some h.0
closed_place b (Unadmitted outcomes) h = absurd h

closed_right : (l : LoadedFiles) (lane : ℕ) (seen more : List Entry) (taken : ℕ) (done : Bool) (b : BatchOf) (r : StepResult) → IsOpenLast l lane seen taken done b → HasClosedAs b r → legal l (seen ++ more) ≡ true
    → IsResult l (seen ++ more) lane (step.Batch (zones_of (step_of l.script.lanes lane taken))) r
closed_right l lane seen more taken done b (Published place) last h lawful = absurd h
closed_right l lane seen more taken done b Unpublished last h lawful = absurd h
closed_right l lane seen more taken done b (Admitted place outcomes) last h lawful =
    let final = h.1.on more (rw (last.loaded, last.seen) lawful) in
    let here : IsResult l (seen ++ more) lane (step.Batch (zones_of (step_of l.script.lanes lane taken))) (Admitted b.place outcomes) = rw (last.loaded, last.seen, last.lane, last.step) at final in
    rw h.0 here
closed_right l lane seen more taken done b (Unadmitted outcomes) last h lawful = absurd h

answered_lane : {L : Type 0} (l : LoadedFiles) (lane : ℕ) (seen : List Entry) (c d : Course L) (b : BatchOf) (faults : ℕ) (plan : Option Fails) → IsLane l lane seen c faults plan → c.progress ≡ progress.Open b
    → HasAnswered b c d → IsLane l lane seen d faults plan
answered_lane l lane seen c d b faults plan h is a =
    let last = open_last l lane seen c b faults plan h is in
    let up : c.taken - 1 + 1 ≡ c.taken = omega (arith, last.some) in
    let kind : step_of l.script.lanes lane (c.taken - 1 + 1) ≡ Some (step.Batch (zones_of (step_of l.script.lanes lane c.taken))) = rw up (batch_is _ last.kind) in
    let free : is_free (work_of (after l seen) lane) ≡ true = rw (last.loaded, last.seen, last.lane) at a.free in
    rw a.is (IsLane-closed l lane seen c b faults plan h is _ a.result (next_is l lane (c.taken - 1) _ kind) (closed_place b a.result a.closed)
    (λ more lawful. closed_right l lane seen more c.taken c.done b a.result last a.closed lawful) (idle_of (work_of (after l seen) lane) free))

over_lane : {L : Type 0} (l : LoadedFiles) (lane : ℕ) (seen : List Entry) (c d : Course L) (b : BatchOf) (over : Bool) (faults : ℕ) (plan : Option Fails) → IsLane l lane seen c faults plan → c.progress ≡ progress.Open b
    → MatchBool over (HasAnswered b c d) (d ≡ c) → IsLane l lane seen d faults plan
over_lane l lane seen c d b true faults plan h is ended = answered_lane l lane seen c d b faults plan h is ended
over_lane l lane seen c d b false faults plan h is ended = rw ended h

ended_by : {L : Type 0} (l : LoadedFiles) (lane : ℕ) (seen : List Entry) (c d : Course L) (p : Progress L) (faults : ℕ) (plan : Option Fails) → IsLane l lane seen c faults plan → c.progress ≡ p → HasEndedIn p c d
    → IsLane l lane seen d faults plan
ended_by l lane seen c d progress.Fresh faults plan h is ended = rw ended h
ended_by l lane seen c d progress.Ready faults plan h is ended = rw ended h
ended_by l lane seen c d (progress.Prepared p) faults plan h is ended = rw ended h
ended_by l lane seen c d (progress.Open b) faults plan h is ended = over_lane l lane seen c d b b.over faults plan h is ended

pub ended_lane : {L : Type 0} (l : LoadedFiles) (lane : ℕ) (seen : List Entry) (c d : Course L) (faults : ℕ) (plan : Option Fails) → IsLane l lane seen c faults plan → HasEnded c d → IsLane l lane seen d faults plan
ended_lane l lane seen c d faults plan h ended = ended_by l lane seen c d c.progress faults plan h refl ended

-- the preparation of the next step

next_shut : {L : Type 0} (l : LoadedFiles) (lane number : ℕ) (p : Progress L) → IsPreparedFor l lane number p → IsShut p
next_shut l lane number progress.Fresh h = absurd h
next_shut l lane number progress.Ready h = tt
next_shut l lane number (progress.Prepared p) h = tt
next_shut l lane number (progress.Open b) h = absurd h

next_progress : {L : Type 0} (l : LoadedFiles) (lane : ℕ) (seen : List Entry) (taken : ℕ) (done : Bool) (p : Progress L) → is_idle (work_of (after l seen) lane) ≡ true → IsPreparedFor l lane (taken + 1) p
    → IsProgress l lane seen taken done p
next_progress l lane seen taken done progress.Fresh idle h = absurd h
next_progress l lane seen taken done progress.Ready idle h = idle
next_progress l lane seen taken done (progress.Prepared p) idle h = (idle, h)
next_progress l lane seen taken done (progress.Open b) idle h = absurd h

prepared_by : {L : Type 0} (l : LoadedFiles) (lane : ℕ) (seen : List Entry) (c d : Course L) (p : Progress L) (faults : ℕ) (plan : Option Fails) → IsLane l lane seen c faults plan → c.progress ≡ p → HasPreparedBy l lane p c d
    → IsLane l lane seen d faults plan
prepared_by {L = L} l lane seen c d progress.Fresh faults plan h is has =
    let fresh : IsProgress {L = L} l lane seen c.taken c.done progress.Fresh = rw is at h.progress in
    rw has.2 (IsLane-prepared l lane seen c has.0 faults plan h is (next_shut l lane (c.taken + 1) has.0 has.1) (next_progress l lane seen c.taken c.done has.0 fresh.0 has.1))
prepared_by l lane seen c d progress.Ready faults plan h is has = rw has h
prepared_by l lane seen c d (progress.Prepared p) faults plan h is has = rw has h
prepared_by l lane seen c d (progress.Open b) faults plan h is has = rw has h

pub prepared_lane : {L : Type 0} (l : LoadedFiles) (lane : ℕ) (seen : List Entry) (c d : Course L) (faults : ℕ) (plan : Option Fails) → IsLane l lane seen c faults plan → HasPrepared l lane c d → IsLane l lane seen d faults plan
prepared_lane l lane seen c d faults plan h has = prepared_by l lane seen c d c.progress faults plan h refl has

-- a turn of the batch under way

module _ {L : Type 0} (l : LoadedFiles) (lane : ℕ) (seen : List Entry) (c : Course L) (b d : BatchOf) (faults : ℕ) (plan : Option Fails) (h : IsLane l lane seen c faults plan) (is : c.progress ≡ progress.Open b)
    (old new : List Entry) (on : GoesOn lane seen old) (lawful : legal l old ≡ true) where
  last : IsOpenLast l lane seen c.taken c.done b
  last = open_last l lane seen c b faults plan h is

  pub moved_lane : HasGone b d old new → StandsAt d → length new ≤ most_entries_of_journal → IsLane l lane new (record c { progress = progress.Open d }) faults plan
  moved_lane gone stands short =
      let m = gone.moves in
      let loaded : d.loaded ≡ l = gone.loaded ∙ last.loaded in
      let of_lane : d.lane ≡ lane = gone.lane ∙ last.lane in
      let at : d.step ≡ c.taken = gone.step ∙ last.step in
      let seen_is : d.seen ≡ old ++ m.entry ∷ [] = gone.seen ∙ m.is in
      let longer : length new ≡ length old + 1 = rw m.is (omega (arith, length-append old (m.entry ∷ []))) in
      rw m.is (IsLane-moved l lane seen c b faults plan h is old m.entry d on lawful
      (record {
        own = m.of_lane ∙ last.lane;
        names = m.names;
        goes = m.goes;
        legal = rw (loaded, seen_is) at stands.legal;
        ended = rw (loaded, seen_is, of_lane) at stands.unended;
        short = rw m.is at short;
      })
      (rw last.lane at m.undialled) gone.place gone.untold (rw (loaded, seen_is, of_lane, at) at stands.last)
      (record { some = last.some; going = refl; loaded = loaded; lane = of_lane; step = at; seen = seen_is; kind = last.kind }) (omega (arith, short, longer)))

  pub moved_turn : HasGone b d old new → IsTurn Moved (lane_view l lane seen c) (lane_view l lane new (record c { progress = progress.Open d })) old new
  moved_turn gone = (
    last.going,
    inr (inr (inl (record {
      entry = gone.moves.entry;
      names = gone.moves.names;
      goes = gone.moves.goes;
      of_lane = gone.moves.of_lane ∙ last.lane;
      journal = gone.moves.is;
      places = rw (is, gone.place) refl;
      going = last.going;
    }))),
  )

  pub waits_lane : (flight : ℕ) → HasStood b d old new flight → length new ≤ most_entries_of_journal → IsLane l lane new (record c { progress = progress.Open d }) faults plan
  waits_lane flight stood short =
      let same : d ≡ record b { seen = old } = rw stood.journal at stood.is in
      rw stood.journal (IsLane-waits l lane seen c b faults plan h is old d on lawful same (rw stood.journal at short))

  pub waits_turn : (flight : ℕ) → HasStood b d old new flight → IsTurn (Waits flight) (lane_view l lane seen c) (lane_view l lane new (record c { progress = progress.Open d })) old new
  waits_turn flight stood = (
    last.going,
    rw (last.loaded, last.lane) at stood.waits,
    rw (last.loaded, last.lane) at stood.first,
    rw (is, stood.is) refl,
    stood.journal,
  )

-- what contracts see of the work

module _ {L : Type 0} where
  -- the flight that the lane brings needs no work
  abbrev IsFlown : Progress L → Type 0
  IsFlown progress.Fresh = Unit {0}
  IsFlown progress.Ready = Unit {0}
  IsFlown (progress.Prepared p) = Unit {0}
  IsFlown (progress.Open b) = b.pending ≡ false

  -- nor do the zones of the batch under way
  abbrev IsAnswered : Progress L → Type 0
  IsAnswered progress.Fresh = Unit {0}
  IsAnswered progress.Ready = Unit {0}
  IsAnswered (progress.Prepared p) = Unit {0}
  IsAnswered (progress.Open b) = (b.pending || b.over) ≡ false

-- all but whether there is work, and a dial that failed
abbrev Looks : LaneOf → LaneOf → Type 0
Looks v w = record w { pending = v.pending; untold = v.untold } ≡ v

module _ {L : Type 0} (l : LoadedFiles) (lane : ℕ) (seen : List Entry) where
  looks_same : (c d : Course L) → d.done ≡ c.done → places_of d ≡ places_of c → Looks (lane_view l lane seen c) (lane_view l lane seen d)
  looks_same c d done places = rw (done, places) refl

  flown_looks : (c d : Course L) (p : Progress L) → c.progress ≡ p → HasWorkedIn p c d → Looks (lane_view l lane seen c) (lane_view l lane seen d)
  flown_looks c d progress.Fresh is w = rw w refl
  flown_looks c d progress.Ready is w = rw w refl
  flown_looks c d (progress.Prepared p) is w = rw w refl
  flown_looks c d (progress.Open b) is w = rw w.1 (rw (w.2, is) refl)

  flown_is : (c d : Course L) (p : Progress L) → c.progress ≡ p → HasWorkedIn p c d → IsFlown d.progress
  flown_is c d progress.Fresh is w = rw (w, is) tt
  flown_is c d progress.Ready is w = rw (w, is) tt
  flown_is c d (progress.Prepared p) is w = rw (w, is) tt
  flown_is c d (progress.Open b) is w = rw w.1 (rw w.2 refl)

  closed_looks : (c d : Course L) (b : BatchOf) → c.progress ≡ progress.Open b → 0 < c.taken → c.taken ≤ length c.results → HasAnswered b c d → Looks (lane_view l lane seen c) (lane_view l lane seen d)
  closed_looks c d b is some within a =
      let up : c.taken - 1 + 1 ≡ c.taken = omega (arith, some) in
      let in_results : c.taken - 1 < length c.results = omega (arith, some, within) in
      let more =
      subst (λ (k : ℕ). map place_of (take k (slice_set c.results (c.taken - 1) a.result)) ≡ map place_of (take (c.taken - 1) c.results) ++ place_of a.result ∷ []) up
      (places_set (c.taken - 1) c.results a.result in_results) in
      let places = more ∙ ap (λ p. map place_of (take (c.taken - 1) c.results) ++ p ∷ []) (closed_place b a.result a.closed) in
      rw a.is (rw (append-nil (map place_of (take c.taken (slice_set c.results (c.taken - 1) a.result))), places, is) refl)

  over_looks : (c d : Course L) (b : BatchOf) (over : Bool) → c.progress ≡ progress.Open b → 0 < c.taken → c.taken ≤ length c.results → MatchBool over (HasAnswered b c d) (d ≡ c)
      → Looks (lane_view l lane seen c) (lane_view l lane seen d)
  over_looks c d b true is some within ended = closed_looks c d b is some within ended
  over_looks c d b false is some within ended = rw ended refl

  over_is : (c d : Course L) (b : BatchOf) (over : Bool) → c.progress ≡ progress.Open b → b.over ≡ over → b.pending ≡ false → MatchBool over (HasAnswered b c d) (d ≡ c) → IsAnswered d.progress
  over_is c d b true is told flown ended = rw ended.is tt
  over_is c d b false is told flown ended = rw (ended, is) (rw (told, flown) refl)

  ended_looks : (c d : Course L) (p : Progress L) → c.progress ≡ p → IsProgress l lane seen c.taken c.done p → c.taken ≤ length c.results → HasEndedIn p c d → Looks (lane_view l lane seen c) (lane_view l lane seen d)
  ended_looks c d progress.Fresh is h within ended = rw ended refl
  ended_looks c d progress.Ready is h within ended = rw ended refl
  ended_looks c d (progress.Prepared p) is h within ended = rw ended refl
  ended_looks c d (progress.Open b) is h within ended = over_looks c d b b.over is h.some within ended

  ended_is : (c d : Course L) (p : Progress L) → c.progress ≡ p → IsFlown p → HasEndedIn p c d → IsAnswered d.progress
  ended_is c d progress.Fresh is flown ended = rw (ended, is) tt
  ended_is c d progress.Ready is flown ended = rw (ended, is) tt
  ended_is c d (progress.Prepared p) is flown ended = rw (ended, is) tt
  ended_is c d (progress.Open b) is flown ended = over_is c d b b.over is refl flown ended

  prepared_looks : (c d : Course L) (p : Progress L) → c.progress ≡ p → HasPreparedBy l lane p c d → Looks (lane_view l lane seen c) (lane_view l lane seen d)
  prepared_looks c d progress.Fresh is has = rw has.2 (next_looks has.0 has.1)
    where
      next_looks : (q : Progress L) → IsPreparedFor l lane (c.taken + 1) q → Looks (lane_view l lane seen c) (lane_view l lane seen (record c { progress = q }))
      next_looks progress.Fresh h = absurd h
      next_looks progress.Ready h = rw is refl
      next_looks (progress.Prepared p) h = rw is refl
      next_looks (progress.Open b) h = absurd h
  prepared_looks c d progress.Ready is has = rw has refl
  prepared_looks c d (progress.Prepared p) is has = rw has refl
  prepared_looks c d (progress.Open b) is has = rw has refl

  prepared_is : (c d : Course L) (p : Progress L) → c.progress ≡ p → IsAnswered p → HasPreparedBy l lane p c d → is_pending d.progress ≡ false
  prepared_is c d progress.Fresh is answered has = rw has.2 (next_is_idle has.0 has.1)
    where
      next_is_idle : (q : Progress L) → IsPreparedFor l lane (c.taken + 1) q → is_pending q ≡ false
      next_is_idle progress.Fresh h = absurd h
      next_is_idle progress.Ready h = refl
      next_is_idle (progress.Prepared p) h = refl
      next_is_idle (progress.Open b) h = absurd h
  prepared_is c d progress.Ready is answered has = rw (has, is) refl
  prepared_is c d (progress.Prepared p) is answered has = rw (has, is) refl
  prepared_is c d (progress.Open b) is answered has = rw (has, is) answered

looks_more : (v w x : LaneOf) → Looks v w → Looks w x → Looks v x
looks_more v w x h k = ap (λ (y : LaneOf). record y { pending = v.pending; untold = v.untold }) k ∙ h

looks_back : (v w : LaneOf) → Looks v w → w.pending ≡ false → w ≡ record v { pending = false; untold = w.untold }
looks_back v w h idle =
    let same : record w { pending = false; untold = w.untold } ≡ record v { pending = false; untold = w.untold } = ap (λ (y : LaneOf). record y { pending = false; untold = w.untold }) h in
    let self : w ≡ record w { pending = false; untold = w.untold } = rw (← idle) refl in
    self ∙ same

pub work_view : {L : Type 0} (l : LoadedFiles) (lane : ℕ) (seen : List Entry) (c d e f : Course L) (faults : ℕ) (plan : Option Fails) → IsLane l lane seen d faults plan → HasWorked c d → HasEnded d e → HasPrepared l lane e f
    → lane_view l lane seen f ≡ record (lane_view l lane seen c) { pending = false; untold = is_untold f.progress }
work_view l lane seen c d e f faults plan h worked ended has =
    let first = flown_looks l lane seen c d c.progress refl worked in
    let second = ended_looks l lane seen d e d.progress refl h.progress (omega (arith, h.within, h.count)) ended in
    let third = prepared_looks l lane seen e f e.progress refl has in
    let flown = flown_is l lane seen c d c.progress refl worked in
    let answered = ended_is l lane seen d e d.progress refl flown ended in
    let idle = prepared_is l lane seen e f e.progress refl answered has in
    looks_back (lane_view l lane seen c) (lane_view l lane seen f)
    (looks_more (lane_view l lane seen c) (lane_view l lane seen e) (lane_view l lane seen f) (looks_more (lane_view l lane seen c) (lane_view l lane seen d) (lane_view l lane seen e) first second) third) idle
