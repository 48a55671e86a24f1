-- A batch behind a look at the flight for which its first query waits.
use Rattle.std.proofs.Common.{◌≡◌, ℕ, ◌+◌, ◌<◌, true, false, List, [], ◌∷◌, ◌++◌, drop, slice_set, refl, sym, ap, ◌∙◌, arith}
use Rattle.std.proofs.lemmas.Bool.{eq-eqb}
use Rattle.std.specs.Arc.{arc_value}
use Rattle.std.specs.declared.alloc.Global.{Global}
use Rattle.std.specs.declared.sync.Arc.{Arc}
use Rattle.std.specs.List.{list_any}
use Rattle.std.specs.Prelude.{Option, Some, None, nat_eq, slice_get}
use Rattle.dq_base.specs.Answers.{answer}
use Rattle.dq_base.specs.declared.cell.Cell.{Cell}
use Rattle.dq_base.specs.declared.query.Query.{Query}
use Rattle.dq_bring.specs.Views.{BringingOf}
use Rattle.dq_cover.proofs.CoverLaws.{covers_refl}
use Rattle.dq_extract.specs.Loads.{LoadedFiles}
use Rattle.dq_fates.proofs.GoingOn.{goes_on_same}
use Rattle.dq_fates.proofs.Takes.{takes_push}
use Rattle.dq_journal.specs.declared.entry.Entry.{Entry}
use Rattle.dq_journal.specs.declared.entry.Entry.TheVariants.{Take}
use Rattle.dq_laws.proofs.Goes.{legal_reached}
use Rattle.dq_laws.proofs.Numbered.{ascend-let_go}
use Rattle.dq_laws.proofs.Owned.{IsOwned-reached}
use Rattle.dq_laws.proofs.Pushed.{pushed}
use Rattle.dq_machine.proofs.Reached.{and_both, reached-works}
use Rattle.dq_machine.specs.Admitting.{runs, taking_off}
use Rattle.dq_machine.specs.Machine.{after, legal}
use Rattle.dq_machine.specs.Owning.{started_behind}
use Rattle.dq_machine.specs.Publishing.{rows_at, rows_in, stamp_in}
use Rattle.dq_machine.specs.State.{New, Flown, Joined, Publication, State, Work, flight_at, is_first, none_left, work_of}
use Rattle.dq_machine.specs.Taking.{is_first_join, let_go, own_flight, waits_at, waits_for, work_taken}
use Rattle.dq_desk.specs.Admissions.{StartedOf}
use Rattle.dq_desk.specs.Events.{LooksAs, is_there, looks, may_look_now}
use Rattle.dq_desk.specs.declared.taking.Taken.TheVariants as taken
use Rattle.dq_zones.specs.declared.fetch.Fetch.{Fetch}
use Rattle.dq_zones.specs.declared.fetch.Fetch.TheVariants as fetch
use Rattle.dq_batch.specs.Beginning.{shared}
use Rattle.dq_batch.specs.Courses.{HasMoved, HasWaited}
use Rattle.dq_batch.specs.Fetching.{AreFetches, CoversAt, IsFetch, waits_of}
use Rattle.dq_batch.specs.Nexts.{beginning}
use Rattle.dq_batch.specs.Open.{IsCurrentOn, IsFree, IsOpen, IsSeen, OwnIs, untold_in, versions_at}
use Rattle.dq_batch.specs.Settling.{IsFirstWait, waited}
use Rattle.dq_batch.specs.declared.open.Current.{Current}
use Rattle.dq_batch.specs.declared.open.Current.TheVariants as current
use Rattle.dq_batch.specs.declared.open.Open.{Open}
use Rattle.dq_batch.proofs.Fetches.{StillOwn, covers_later, fetch_on}
use Rattle.dq_batch.proofs.Journals.{stood_rows}
use Rattle.dq_batch.proofs.Opens.{above, all_there, moved, open_by, within}
use Rattle.dq_batch.proofs.Takes.{FirstJoin, fetches_long, fetches_taken, first_join, found_behind, taken_work}

-- nothing is brought

module _ {L : Type 0} where
  pub free_own : (s : State) (versions : List Publication) (queries : List Query) (own : List ℕ) (ts : List StartedOf) (x : Current L) → IsFree x → OwnIs s versions queries own ts x → (own ≡ []) × (ts ≡ [])
  free_own s versions queries own [] current.Free free h = (h, refl)
  free_own s versions queries own [] (current.Group b) free h = absurd free
  free_own s versions queries own [] (current.Own p b) free h = absurd free
  free_own s versions queries own (t ∷ left) current.Free free h = absurd h
  free_own s versions queries own (t ∷ left) (current.Group b) free h = absurd free
  free_own s versions queries own (t ∷ left) (current.Own p b) free h = absurd free

  own_free : (s : State) (versions : List Publication) (queries : List Query) (own : List ℕ) (x : Current L) → IsFree x → own ≡ [] → OwnIs s versions queries own [] x
  own_free s versions queries own current.Free free is = is
  own_free s versions queries own (current.Group b) free is = absurd free
  own_free s versions queries own (current.Own p b) free is = absurd free

  on_free : (l : LoadedFiles) (lane : ℕ) (journal : List Entry) (x : Current L) → IsFree x → IsCurrentOn l lane journal x
  on_free l lane journal current.Free free = tt
  on_free l lane journal (current.Group b) free = absurd free
  on_free l lane journal (current.Own p b) free = absurd free

  seen_free : (journal : List Entry) (x : Current L) → IsFree x → IsSeen journal x
  seen_free journal current.Free free = tt
  seen_free journal (current.Group b) free = absurd free
  seen_free journal (current.Own p b) free = absurd free

  told_free : (x : Current L) → IsFree x → untold_in x ≡ false
  told_free current.Free free = refl
  told_free (current.Group b) free = absurd free
  told_free (current.Own p b) free = absurd free

-- what the desk tells

running_waits : (s : State) (o : Option Flown) → LooksAs s o taken.Running → waits_for o ≡ true
running_waits s None told = absurd told
running_waits s (Some f) told = ap runs told

shared_settled : (share : Option (Arc Query Global × Arc (List (List Cell)) Global)) → waited (shared share) ≡ None
shared_settled None = refl
shared_settled (Some both) = refl

landed_share : (journal : List Entry) (s s' : State) (lane : ℕ) (versions : List Publication) (q : Query) (share : Option (Arc Query Global × Arc (List (List Cell)) Global)) (o : Option Flown)
    → ((source : ℕ) → rows_at s.versions (stamp_in versions source) ≡ rows_in versions source) → CoversAt versions q o → LooksAs s o (taken.Landed share) → IsFetch journal s' lane versions None q (shared share)
landed_share journal s s' lane versions q None o rows c told = (tt, tt)
landed_share journal s s' lane versions q (Some both) None rows c told = absurd c
landed_share journal s s' lane versions q (Some both) (Some f) rows c told = (
  refl,
  tt,
  rw (told.1.0) c.0,
  told.1.1 ∙ ap (λ x. answer x (rows_at s.versions f.stamp)) (sym told.1.0) ∙ ap (λ x. answer (arc_value both.0) (rows_at s.versions x)) c.1 ∙ ap (answer (arc_value both.0)) (rows q.source),
)

fallen_number : (s : State) (o : Option Flown) (number : ℕ) → LooksAs s o (taken.Fallen number) → number ≡ s.flights.started + 1
fallen_number s None number told = absurd told
fallen_number s (Some f) number told = told.1

-- before the look

module _ {L : Type 0} (l : LoadedFiles) (old : List Entry) (o : Open L) (h : IsOpen l old o) (free : IsFree o.current) (place flight : ℕ) (first : IsFirstWait o.fetches place flight) where
  none_own : (work_of (after l old) o.lane).own ≡ []
  none_own = (free_own (after l old) (versions_at l old o.place) o.queries (work_of (after l old) o.lane).own (drop o.over o.started) o.current free h.own).0

  none_left_over : drop o.over o.started ≡ []
  none_left_over = (free_own (after l old) (versions_at l old o.place) o.queries (work_of (after l old) o.lane).own (drop o.over o.started) o.current free h.own).1

  join_of : (y : Fetch) → waited y ≡ None → FirstJoin (versions_at l old o.place) o.queries o.fetches (slice_set o.fetches place y) place flight
  join_of y settled =
      first_join (versions_at l old o.place) o.queries o.fetches place flight y
      (fetches_long old (after l old) o.lane (versions_at l old o.place) h.met (started_behind old o.lane o.place) o.queries o.fetches h.fetches) settled first

  first_joined : is_first_join (work_of (after l old) o.lane).joins flight ≡ true
  first_joined = rw (h.joins, (join_of fetch.Memory refl).joins) (eq-eqb flight flight refl)

  pub may_look : may_look_now (after l old) o.lane flight ≡ true
  may_look =
      let s = after l old in
      let w : Work = work_of s o.lane in
      let works = reached-works l s (legal_reached l old h.legal) in
      let there : is_there s o.lane ≡ true = rw works h.lane in
      let empty : none_left w.own ≡ true = rw none_own refl in
      and_both (is_there s o.lane) (looks w flight) there (and_both (none_left w.own) (is_first_join w.joins flight) empty first_joined)

  -- the flight is running

  pub look_waits : (new : List Entry) → new ≡ old → LooksAs (after l old) (flight_at (after l old) flight) taken.Running → HasWaited l o old new o flight
  look_waits new is told =
      let s = after l old in
      let w : Work = work_of s o.lane in
      let empty : none_left w.own ≡ true = rw none_own refl in
      let there : waits_at s w.joins ≡ true = rw (h.joins, (join_of fetch.Memory refl).joins) (running_waits s (flight_at s flight) told) in
      record {
        journal = is;
        is = refl;
        batch = record { held = rw is h; seen = seen_free new o.current free };
        waits = and_both (none_left w.own) (waits_at s w.joins) empty there;
        first = first_joined;
      }

  no_own : (own : Option ℕ) (q : Query) (x : Fetch) (mine : List ℕ) → IsFetch old (after l old) o.lane (versions_at l old o.place) own q x → StillOwn mine x
  no_own own q (fetch.Waiting n) mine f = absurd f
  no_own own q (fetch.Flying n) mine f = let none = rw none_own at f.1 in let no : ⊥ = cc in absurd no
  no_own own q (fetch.Brought k t) mine f = tt
  no_own own q fetch.BackEnd mine f = tt
  no_own own q fetch.Memory mine f = tt

  -- a Take

  module _ (next' : Option ℕ) (y : Fetch) (settled : waited y ≡ None) (lawful : legal l (old ++ Take o.lane flight next' ∷ []) ≡ true) where
    joins_taken : (work_of (after l (old ++ Take o.lane flight next' ∷ [])) o.lane).joins ≡ waits_of (versions_at l old o.place) o.queries (slice_set o.fetches place y)
    joins_taken = ap (λ (w : Work). w.joins) (taken_work l old o.lane flight next' lawful) ∙ dropped_joins next' (work_of (after l old) o.lane) (h.joins ∙ (join_of y settled).joins)
      where
        dropped_joins : (n : Option ℕ) (w : Work) {j : Joined} {js : List Joined} → w.joins ≡ j ∷ js → (work_taken w n).joins ≡ js
        dropped_joins None w e = ap (drop 1) e
        dropped_joins (Some n) w e = ap (drop 1) e

    fetches_after : ((q : Query) → slice_get o.queries place ≡ Some q → CoversAt (versions_at l old o.place) q (flight_at (after l old) flight)
        → IsFetch (old ++ Take o.lane flight next' ∷ []) (after l (old ++ Take o.lane flight next' ∷ [])) o.lane (versions_at l old o.place) next' q y)
        → AreFetches (old ++ Take o.lane flight next' ∷ []) (after l (old ++ Take o.lane flight next' ∷ [])) o.lane (versions_at l old o.place) h.met
        (started_behind (old ++ Take o.lane flight next' ∷ []) o.lane o.place) o.queries (slice_set o.fetches place y)
    fetches_after right =
        let e : Entry = Take o.lane flight next' in
        let more : List Entry = e ∷ [] in
        let vs = versions_at l old o.place in
        let s' = after l (old ++ more) in
        rw (takes_push old e o.lane o.place (within l old more o h lawful) refl)
        (fetches_taken old (old ++ more) (after l old) s' o.lane vs
        (λ own q x f. fetch_on l old more o.lane vs lawful (above l old more o h lawful) own q x (no_own own q x (work_of s' o.lane).own f) f)
        (covers_later l old more o.lane vs lawful (above l old more o h lawful)) flight next' y settled h.met (started_behind old o.lane o.place) o.queries o.fetches place first right
        (all_there l old more o h lawful (slice_set o.fetches place y) joins_taken) h.fetches)

  -- it landed

  module _ (new : List Entry) (share : Option (Arc Query Global × Arc (List (List Cell)) Global)) (is : new ≡ old ++ Take o.lane flight None ∷ []) (lawful : legal l new ≡ true)
      (told : LooksAs (after l old) (flight_at (after l old) flight) (taken.Landed share)) where
    landed_longer : legal l (old ++ Take o.lane flight None ∷ []) ≡ true
    landed_longer = rw (← is) lawful

    landed_open : IsOpen l (old ++ Take o.lane flight None ∷ []) (moved o o.over (slice_set o.fetches place (shared share)) o.current)
    landed_open =
        let more : List Entry = Take o.lane flight None ∷ [] in
        let vs = versions_at l old o.place in
        let s' = after l (old ++ more) in
        let work = taken_work l old o.lane flight None landed_longer in
        let own : (work_of s' o.lane).own ≡ [] = ap (λ (w : Work). w.own) work ∙ none_own in
        let settled = shared_settled share in
        open_by l old more o h landed_longer o.over (slice_set o.fetches place (shared share)) o.current
        (fetches_after None (shared share) settled landed_longer (λ q at c. landed_share (old ++ more) (after l old) s' o.lane vs q share (flight_at (after l old) flight) (stood_rows l old o.place) c told))
        (joins_taken None (shared share) settled landed_longer) h.over
        (rw none_left_over (own_free s' vs o.queries (work_of s' o.lane).own o.current free own))
        (rw none_left_over tt)
        (on_free l o.lane (old ++ more) o.current free)
        (ap (λ (w : Work). w.last) work ∙ h.last) (ap (λ (w : Work). w.ended) work ∙ h.unended)

    pub look_landed : HasMoved l o old new (moved o o.over (slice_set o.fetches place (shared share)) o.current)
    look_landed = record {
      moves = record { entry = Take o.lane flight None; is = is; of_lane = refl; names = refl; goes = refl; undialled = sym (told_free o.current free) };
      batch = record { held = rw is landed_open; seen = seen_free new o.current free };
      same = record { lane = refl; step = refl; place = refl };
      told = told_free o.current free;
    }

  -- it fell

  module _ (new : List Entry) (number : ℕ) (is : new ≡ old ++ Take o.lane flight (Some number) ∷ []) (lawful : legal l new ≡ true)
      (told : LooksAs (after l old) (flight_at (after l old) flight) (taken.Fallen number)) where
    fallen_longer : legal l (old ++ Take o.lane flight (Some number) ∷ []) ≡ true
    fallen_longer = rw (← is) lawful

    fallen_work : work_of (after l (old ++ Take o.lane flight (Some number) ∷ [])) o.lane ≡ work_taken (work_of (after l old) o.lane) (Some number)
    fallen_work = taken_work l old o.lane flight (Some number) fallen_longer

    pub fallen_first : is_first (work_of (after l new) o.lane).own number ≡ true
    fallen_first = rw (is, fallen_work) (eq-eqb number number refl)

    pub fallen_begins : (work_of (after l new) o.lane).phase ≡ New 0
    fallen_begins = rw (is, fallen_work) refl

    fallen_flight : (q : Query) (js : List Joined) → (work_of (after l old) o.lane).joins ≡ record { flight = flight; query = q; stamp = stamp_in (versions_at l old o.place) q.source } ∷ js
        → flight_at (after l (old ++ Take o.lane flight (Some number) ∷ [])) number ≡ Some (taking_off number o.lane (stamp_in (versions_at l old o.place) q.source) q)
    fallen_flight q js joins =
        let s = after l old in
        let p = pushed l old (Take o.lane flight (Some number)) fallen_longer in
        let above : s.flights.started < number = omega (arith, fallen_number s (flight_at s flight) number told) in
        let numbers = ascend-let_go 0 s.flights.started flight s.flights.flown (IsOwned-reached l s (legal_reached l old h.legal)).numbers in
        rw p.after (found_behind number s.flights.started (let_go flight s.flights.flown) (own_flight number o.lane (work_of s o.lane).joins) numbers above
        ∙ rw (joins, eq-eqb number number refl) refl)

    pub look_fallen : (c : BringingOf) → c ≡ beginning l o.lane new number → HasMoved l o old new (moved o o.over (slice_set o.fetches place (fetch.Flying number)) (current.Own place c))
    look_fallen c begins =
        let more : List Entry = Take o.lane flight (Some number) ∷ [] in
        let vs = versions_at l old o.place in
        let s' = after l (old ++ more) in
        let j = join_of (fetch.Flying number) refl in
        let found = fallen_flight j.query (waits_of vs o.queries (slice_set o.fetches place (fetch.Flying number))) (h.joins ∙ j.joins) in
        let own : (work_of s' o.lane).own ≡ number ∷ [] = ap (λ (w : Work). w.own) fallen_work in
        let flies : c.flight ≡ number = ap (λ (b : BringingOf). b.flight) begins in
        let among : list_any (nat_eq number) (work_of s' o.lane).own ≡ true = rw (own, eq-eqb number number refl) refl in
        let right : (q : Query) → slice_get o.queries place ≡ Some q → CoversAt vs q (flight_at (after l old) flight) → IsFetch (old ++ more) s' o.lane vs (Some number) q (fetch.Flying number) =
        λ q at was. (refl, among, fallen_covers q at) in
        let opens = open_by l old more o h fallen_longer o.over (slice_set o.fetches place (fetch.Flying number)) (current.Own place c)
        (fetches_after (Some number) (fetch.Flying number) refl fallen_longer right)
        (joins_taken (Some number) (fetch.Flying number) refl fallen_longer) h.over
        (rw none_left_over (rw flies (own, rw (j.at, found) (refl, refl))))
        (rw none_left_over tt)
        (rw begins (refl, refl, rw is (goes_on_same o.lane (old ++ more))))
        (ap (λ (w : Work). w.last) fallen_work ∙ h.last) (ap (λ (w : Work). w.ended) fallen_work ∙ h.unended) in
        record {
          moves = record { entry = Take o.lane flight (Some number); is = is; of_lane = refl; names = refl; goes = refl; undialled = sym (told_free o.current free) };
          batch = record { held = rw is opens; seen = ap (λ (b : BringingOf). b.seen) begins };
          same = record { lane = refl; step = refl; place = refl };
          told = ap (λ (b : BringingOf). b.untold) begins;
        }
      where
        fallen_covers : (q : Query) → slice_get o.queries place ≡ Some q → CoversAt (versions_at l old o.place) q (flight_at (after l (old ++ Take o.lane flight (Some number) ∷ [])) number)
        fallen_covers q at =
            let vs = versions_at l old o.place in
            let j = join_of (fetch.Flying number) refl in
            let found = fallen_flight j.query (waits_of vs o.queries (slice_set o.fetches place (fetch.Flying number))) (h.joins ∙ j.joins) in
            let jat = j.at in
            let same : j.query ≡ q = cc in
            rw found (rw same (covers_refl q, refl))
