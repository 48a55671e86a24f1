-- A batch behind an event of the flight that its lane brings.
use Rattle.std.proofs.Common.{◌≡◌, ℕ, zero, suc, ◌+◌, ◌≤◌, Bool, true, false, List, [], ◌∷◌, ◌++◌, length, drop, refl, sym, ap, ◌∙◌, arith, append-nil}
use Rattle.std.proofs.lemmas.Bool.{eq-eqb}
use Rattle.std.specs.List.{AllByRecursion}
use Rattle.std.specs.Prelude.{Some, slice_get}
use Rattle.dq_base.specs.Scripts.{is_lane}
use Rattle.dq_base.specs.declared.query.Query.{Query}
use Rattle.dq_bring.specs.Flights.{KeyAt}
use Rattle.dq_bring.specs.Told.{Ends, Enters}
use Rattle.dq_bring.specs.Turned.{FliesOn}
use Rattle.dq_bring.specs.Views.{BringingOf}
use Rattle.dq_bring.specs.declared.telling.Ending.{Ending}
use Rattle.dq_extract.specs.Loads.{LoadedFiles}
use Rattle.dq_fates.proofs.GoingOn.{goes_on_same}
use Rattle.dq_fates.proofs.Takes.{takes_push}
use Rattle.dq_journal.specs.Journals.{lane_of}
use Rattle.dq_journal.specs.declared.entry.Entry.{Entry}
use Rattle.dq_laws.specs.Settled.{brings}
use Rattle.dq_machine.specs.Machine.{after, legal}
use Rattle.dq_machine.specs.Owning.{started_behind}
use Rattle.dq_machine.specs.Publishing.{stamp_in}
use Rattle.dq_machine.specs.State.{New, Publication, State, flight_at, is_first, work_of}
use Rattle.dq_desk.specs.Admissions.{StartedOf}
use Rattle.dq_zones.specs.declared.fetch.Fetch.{Fetch}
use Rattle.dq_batch.specs.Courses.{HasMoved, Moves}
use Rattle.dq_batch.specs.Nexts.{CanBegin, IsNext}
use Rattle.dq_batch.specs.Open.{AsksFor, IsCurrentOn, IsOn, IsOpen, IsSeen, IsToCome, OwnIs, pending_in, untold_in, versions_at}
use Rattle.dq_batch.specs.Settling.{AllSettle}
use Rattle.dq_batch.specs.declared.open.Current.{Current}
use Rattle.dq_batch.specs.declared.open.Current.TheVariants as current
use Rattle.dq_batch.specs.declared.open.Open.{Open}
use Rattle.dq_batch.proofs.Journals.{brings_names, brings_starts, stood_rows}
use Rattle.dq_batch.proofs.Opens.{SameFlight, above, alike_later, all_there, coming_on, flights_of, moved, open_by, open_stays, own_stands, within}
use Rattle.dq_batch.proofs.Settles.{settle_all, waits_settled}

-- one more entry on the way of a flight

pub enters_moves : (lane flight : ℕ) (untold : Bool) (old new : List Entry) → Enters lane flight untold old new → Moves lane untold old new
enters_moves lane flight untold old new e =
    let both = brings_names flight e.entry e.brings in
    record { entry = e.entry; is = e.is; of_lane = e.of_lane; names = both.0; goes = both.1; undialled = e.undialled }

takes_brought : (old : List Entry) (e : Entry) (lane flight place : ℕ) → place ≤ length old → lane_of e ≡ lane → brings flight e ≡ true → started_behind (old ++ e ∷ []) lane place ≡ started_behind old lane place
takes_brought old e lane flight place within same h =
    takes_push old e lane place within same ∙ ap (λ ts. started_behind old lane place ++ ts) (brings_starts flight e h) ∙ append-nil (started_behind old lane place)

-- where a flight stands that is brought

on_now : (l : LoadedFiles) (lane : ℕ) (journal : List Entry) (c : BringingOf) → c.loaded ≡ l → c.lane ≡ lane → c.seen ≡ journal → IsOn l lane journal c
on_now l lane journal c loaded mine seen = (loaded, mine, rw seen (goes_on_same lane journal))

pub next_on : {L : Type 0} (l : LoadedFiles) (lane : ℕ) (journal : List Entry) (ts : List StartedOf) (x : Current L) → IsNext l lane journal ts x → IsCurrentOn l lane journal x
next_on l lane journal [] current.Free h = tt
next_on l lane journal [] (current.Group c) h = absurd h
next_on l lane journal [] (current.Own p c) h = absurd h
next_on l lane journal (t ∷ left) current.Free h = absurd h
next_on l lane journal (t ∷ left) (current.Group c) h =
    on_now l lane journal c (ap (λ (b : BringingOf). b.loaded) h) (ap (λ (b : BringingOf). b.lane) h) (ap (λ (b : BringingOf). b.seen) h)
next_on l lane journal (t ∷ left) (current.Own p c) h = absurd h

pub next_seen : {L : Type 0} (l : LoadedFiles) (lane : ℕ) (journal : List Entry) (ts : List StartedOf) (x : Current L) → IsNext l lane journal ts x → IsSeen journal x
next_seen l lane journal [] current.Free h = tt
next_seen l lane journal [] (current.Group c) h = absurd h
next_seen l lane journal [] (current.Own p c) h = absurd h
next_seen l lane journal (t ∷ left) current.Free h = absurd h
next_seen l lane journal (t ∷ left) (current.Group c) h = ap (λ (b : BringingOf). b.seen) h
next_seen l lane journal (t ∷ left) (current.Own p c) h = absurd h

pub next_told : {L : Type 0} (l : LoadedFiles) (lane : ℕ) (journal : List Entry) (ts : List StartedOf) (x : Current L) → IsNext l lane journal ts x → untold_in x ≡ false
next_told l lane journal [] current.Free h = refl
next_told l lane journal [] (current.Group c) h = absurd h
next_told l lane journal [] (current.Own p c) h = absurd h
next_told l lane journal (t ∷ left) current.Free h = absurd h
next_told l lane journal (t ∷ left) (current.Group c) h = ap (λ (b : BringingOf). b.untold) h
next_told l lane journal (t ∷ left) (current.Own p c) h = absurd h

pub next_idle : {L : Type 0} (l : LoadedFiles) (lane : ℕ) (journal : List Entry) (ts : List StartedOf) (x : Current L) → IsNext l lane journal ts x → pending_in x ≡ false
next_idle l lane journal [] current.Free h = refl
next_idle l lane journal [] (current.Group c) h = absurd h
next_idle l lane journal [] (current.Own p c) h = absurd h
next_idle l lane journal (t ∷ left) current.Free h = absurd h
next_idle l lane journal (t ∷ left) (current.Group c) h = ap (λ (b : BringingOf). b.pending) h
next_idle l lane journal (t ∷ left) (current.Own p c) h = absurd h

pub next_own : {L : Type 0} (l : LoadedFiles) (lane : ℕ) (journal : List Entry) (s : State) (versions : List Publication) (queries : List Query) (own : List ℕ) (ts : List StartedOf) (x : Current L)
    → own ≡ flights_of ts → IsNext l lane journal ts x → OwnIs s versions queries own ts x
next_own l lane journal s versions queries own [] current.Free is h = is
next_own l lane journal s versions queries own [] (current.Group c) is h = absurd h
next_own l lane journal s versions queries own [] (current.Own p c) is h = absurd h
next_own l lane journal s versions queries own (t ∷ left) current.Free is h = absurd h
next_own l lane journal s versions queries own (t ∷ left) (current.Group c) is h = (is, ap (λ (b : BringingOf). b.flight) h)
next_own l lane journal s versions queries own (t ∷ left) (current.Own p c) is h = absurd h

pub can_begin : (l : LoadedFiles) (lane : ℕ) (journal : List Entry) (ts : List StartedOf) → is_lane (length l.script.lanes) lane ≡ true → (work_of (after l journal) lane).own ≡ flights_of ts
    → (work_of (after l journal) lane).phase ≡ New 0 → CanBegin l lane journal ts
can_begin l lane journal [] there own phase = tt
can_begin l lane journal (t ∷ left) there own phase = record { within = there; first = rw own (eq-eqb t.flight t.flight refl); begins = phase }

-- the flight is still to be brought

module _ {L : Type 0} (l : LoadedFiles) (old new : List Entry) (o : Open L) (b c : BringingOf) (now : Current L) (h : IsOpen l old o) (lawful : legal l new ≡ true) (f : FliesOn b c old new)
    (loaded : b.loaded ≡ l) (mine : b.lane ≡ o.lane) where
  longer : legal l (old ++ f.enters.entry ∷ []) ≡ true
  longer = rw (← f.enters.is) lawful

  flies_by : SameFlight (after l old) (after l (old ++ f.enters.entry ∷ [])) (versions_at l old o.place) (alike_later l old (f.enters.entry ∷ []) o h longer) o.current now
      → IsCurrentOn l o.lane (old ++ f.enters.entry ∷ []) now → IsOpen l (old ++ f.enters.entry ∷ []) (moved o o.over o.fetches now)
  flies_by same on =
      let own = rw (loaded, mine, f.enters.is) at f.own in
      let joins = rw (loaded, mine, f.enters.is) at f.beside.joins in
      let last = rw (loaded, mine, f.enters.is) at f.beside.last in
      let ended = rw (loaded, mine, f.enters.is) at f.beside.ended in
      open_stays l old (f.enters.entry ∷ []) o h longer own joins last ended
      (takes_brought old f.enters.entry o.lane b.flight o.place (within l old (f.enters.entry ∷ []) o h longer) (f.enters.of_lane ∙ mine) f.enters.brings) now same on

  pub on_flight : IsOn l o.lane new c
  on_flight = on_now l o.lane new c (f.loaded ∙ loaded) (f.lane ∙ mine) f.seen

  moves_on : untold_in o.current ≡ b.untold → Moves o.lane (untold_in o.current) old new
  moves_on told = rw (told, ← mine) (enters_moves b.lane b.flight b.untold old new f.enters)

-- it ended

dropped : {X : Type 0} (xs : List X) (n : ℕ) (x : X) → slice_get xs n ≡ Some x → (drop n xs ≡ x ∷ drop (n + 1) xs) × (n + 1 ≤ length xs)
dropped [] n x e = let no : ⊥ = cc in absurd no
dropped (y ∷ xs) zero x e = let same : y ≡ x = cc in (ap (λ z. z ∷ xs) same, omega arith)
dropped (y ∷ xs) (suc n) x e =
    let rest = dropped xs n x e in
    let le = rest.1 in
    let more : suc n + 1 ≡ suc (n + 1) = omega arith in
    (rw more rest.0, omega (arith, le))

module _ {L : Type 0} (l : LoadedFiles) (old new : List Entry) (o : Open L) (b : BringingOf) (key : Query) (stamp : ℕ) (e : Ending) (h : IsOpen l old o) (lawful : legal l new ≡ true)
    (loaded : b.loaded ≡ l) (mine : b.lane ≡ o.lane) (f : Ends b.loaded b.lane b.flight b.untold old new e)
    (first : is_first (work_of (after l old) o.lane).own b.flight ≡ true) (asked : KeyAt (flight_at (after l old) b.flight) key stamp) where
  ended_longer : legal l (old ++ f.enters.entry ∷ []) ≡ true
  ended_longer = rw (← f.enters.is) lawful

  pub ended_own : (work_of (after l new) o.lane).own ≡ drop 1 (work_of (after l old) o.lane).own
  ended_own = rw (loaded, mine) at f.own

  pub ended_phase : (work_of (after l new) o.lane).phase ≡ New 0
  ended_phase = rw (loaded, mine) at f.course

  ended_moves : untold_in o.current ≡ b.untold → Moves o.lane (untold_in o.current) old new
  ended_moves told = rw (told, ← mine) (enters_moves b.lane b.flight b.untold old new f.enters)

  ended_by : (over : ℕ) (ys : List Fetch) (now : Current L) → AllSettle b.flight key e o.fetches ys → over ≤ length o.started
      → OwnIs (after l (old ++ f.enters.entry ∷ [])) (versions_at l old o.place) o.queries (work_of (after l (old ++ f.enters.entry ∷ [])) o.lane).own (drop over o.started) now
      → AllByRecursion (IsToCome l.script.schemas (after l (old ++ f.enters.entry ∷ [])) (versions_at l old o.place)) (drop over o.started)
      → IsCurrentOn l o.lane (old ++ f.enters.entry ∷ []) now → IsOpen l (old ++ f.enters.entry ∷ []) (moved o over ys now)
  ended_by over ys now settled few own coming on =
      let more = f.enters.entry ∷ [] in
      let vs = versions_at l old o.place in
      let own_is = rw (f.enters.is) at ended_own in
      let joins' = rw (loaded, mine, f.enters.is) at f.beside.joins in
      let last = rw (loaded, mine, f.enters.is) at f.beside.last in
      let unended = rw (loaded, mine, f.enters.is) at f.beside.ended in
      let over' = rw (loaded, f.enters.is) at f.over in
      let told = rw (loaded, f.enters.is) at f.ending in
      let joins = joins' ∙ h.joins ∙ sym (waits_settled b.flight key e vs o.queries o.fetches ys settled) in
      let takes = takes_brought old f.enters.entry o.lane b.flight o.place (within l old more o h ended_longer) (f.enters.of_lane ∙ mine) f.enters.brings in
      open_by l old more o h ended_longer over ys now
      (rw takes (settle_all l old more o.lane b.flight vs key stamp e ended_longer (above l old more o h ended_longer) asked over' (stood_rows l old o.place) told first own_is
      h.met (started_behind old o.lane o.place) o.queries o.fetches ys settled (all_there l old more o h ended_longer ys joins) h.fetches))
      joins few own coming on (last ∙ h.last) (unended ∙ h.unended)

-- the first of those that were started

module _ {L : Type 0} (l : LoadedFiles) (old new : List Entry) (o : Open L) (b : BringingOf) (h : IsOpen l old (moved o o.over o.fetches (current.Group b))) (lawful : legal l new ≡ true) where
  pub group_flies : (c : BringingOf) → FliesOn b c old new → HasMoved l (moved o o.over o.fetches (current.Group b)) old new (moved o o.over o.fetches (current.Group c))
  group_flies c f =
      let before : Open L = moved o o.over o.fetches (current.Group b) in
      let on = on_flight l old new before b c (current.Group c) h lawful f h.current.0 h.current.1 in
      let now = flies_by l old new before b c (current.Group c) h lawful f h.current.0 h.current.1 f.flight (rw (f.enters.is) at on) in
      let opens = rw (← f.enters.is) at now in
      record {
        moves = moves_on l old new before b c (current.Group c) h lawful f h.current.0 h.current.1 refl;
        batch = record { held = opens; seen = f.seen };
        same = record { lane = refl; step = refl; place = refl };
        told = f.untold;
      }

  module _ (t : StartedOf) (at : slice_get o.started o.over ≡ Some t) where
    group_own : ((work_of (after l old) o.lane).own ≡ flights_of (t ∷ drop (o.over + 1) o.started)) × (b.flight ≡ t.flight)
    group_own =
        let is = (dropped o.started o.over t at).0 in
        rw is at h.own

    group_first : is_first (work_of (after l old) o.lane).own b.flight ≡ true
    group_first = rw (group_own.0) (eq-eqb t.flight b.flight (sym group_own.1))

    group_coming : AllByRecursion (IsToCome l.script.schemas (after l old) (versions_at l old o.place)) (t ∷ drop (o.over + 1) o.started)
    group_coming =
        let is = (dropped o.started o.over t at).0 in
        rw is at h.to_come

    group_asked : KeyAt (flight_at (after l old) b.flight) t.key t.stood.stamp
    group_asked = rw (group_own.1) group_coming.0.asked

    module _ (e : Ending) (f : Ends b.loaded b.lane b.flight b.untold old new e) where
      group_left : (work_of (after l new) o.lane).own ≡ flights_of (drop (o.over + 1) o.started)
      group_left =
          ended_own l old new (moved o o.over o.fetches (current.Group b)) b t.key t.stood.stamp e h lawful h.current.0 h.current.1 f group_first group_asked ∙ ap (drop 1) group_own.0

      pub group_begins : CanBegin l o.lane new (drop (o.over + 1) o.started)
      group_begins =
          can_begin l o.lane new (drop (o.over + 1) o.started) h.lane group_left
          (ended_phase l old new (moved o o.over o.fetches (current.Group b)) b t.key t.stood.stamp e h lawful h.current.0 h.current.1 f group_first group_asked)

      pub group_ends : (ys : List Fetch) (x : Current L) → AllSettle b.flight t.key e o.fetches ys → IsNext l o.lane new (drop (o.over + 1) o.started) x
          → HasMoved l (moved o o.over o.fetches (current.Group b)) old new (moved o (o.over + 1) ys x)
      group_ends ys x settled follows =
          let before : Open L = moved o o.over o.fetches (current.Group b) in
          let more : List Entry = f.enters.entry ∷ [] in
          let vs = versions_at l old o.place in
          let left : List StartedOf = drop (o.over + 1) o.started in
          let longer = ended_longer l old new before b t.key t.stood.stamp e h lawful h.current.0 h.current.1 f group_first group_asked in
          let left_is = rw (f.enters.is) at group_left in
          let own = next_own l o.lane new (after l (old ++ more)) vs o.queries (work_of (after l (old ++ more)) o.lane).own left x left_is follows in
          let coming = coming_on (after l old) (after l (old ++ more)) vs (alike_later l old more before h longer) l.script.schemas left
          (λ n a. own_stands l old more before h longer n (rw left_is a)) group_coming.1 in
          let here = next_on l o.lane new left x follows in
          let on = rw (f.enters.is) at here in
          let opens = ended_by l old new before b t.key t.stood.stamp e h lawful h.current.0 h.current.1 f group_first group_asked (o.over + 1) ys x settled (dropped o.started o.over t at).1 own coming on in
          record {
            moves = ended_moves l old new before b t.key t.stood.stamp e h lawful h.current.0 h.current.1 f group_first group_asked refl;
            batch = record { held = rw (← f.enters.is) at opens; seen = next_seen l o.lane new left x follows };
            same = record { lane = refl; step = refl; place = refl };
            told = next_told l o.lane new left x follows;
          }

-- one in place of a flight that fell

own_only : (L : Type 0) (s : State) (versions : List Publication) (queries : List Query) (own : List ℕ) (ts : List StartedOf) (place : ℕ) (b : BringingOf) → OwnIs {L = L} s versions queries own ts (current.Own place b)
    → (ts ≡ []) × (own ≡ b.flight ∷ []) × AsksFor s versions (slice_get queries place) b.flight
own_only L s versions queries own [] place b h = (refl, h.0, h.1)
own_only L s versions queries own (t ∷ left) place b h = absurd h

module _ {L : Type 0} (l : LoadedFiles) (old new : List Entry) (o : Open L) (place : ℕ) (b : BringingOf) (h : IsOpen l old (moved o o.over o.fetches (current.Own place b))) (lawful : legal l new ≡ true) where
  pub own_flies : (c : BringingOf) → FliesOn b c old new → HasMoved l (moved o o.over o.fetches (current.Own place b)) old new (moved o o.over o.fetches (current.Own place c))
  own_flies c f =
      let before : Open L = moved o o.over o.fetches (current.Own place b) in
      let on = on_flight l old new before b c (current.Own place c) h lawful f h.current.0 h.current.1 in
      let now = flies_by l old new before b c (current.Own place c) h lawful f h.current.0 h.current.1 (refl, f.flight) (rw (f.enters.is) at on) in
      let opens = rw (← f.enters.is) at now in
      record {
        moves = moves_on l old new before b c (current.Own place c) h lawful f h.current.0 h.current.1 refl;
        batch = record { held = opens; seen = f.seen };
        same = record { lane = refl; step = refl; place = refl };
        told = f.untold;
      }

  own_parts : (drop o.over o.started ≡ []) × ((work_of (after l old) o.lane).own ≡ b.flight ∷ []) × AsksFor (after l old) (versions_at l old o.place) (slice_get o.queries place) b.flight
  own_parts = own_only L (after l old) (versions_at l old o.place) o.queries (work_of (after l old) o.lane).own (drop o.over o.started) place b h.own

  own_first : is_first (work_of (after l old) o.lane).own b.flight ≡ true
  own_first = rw (own_parts.1) (eq-eqb b.flight b.flight refl)

  module _ (q : Query) (at : slice_get o.queries place ≡ Some q) where
    own_asked : KeyAt (flight_at (after l old) b.flight) q (stamp_in (versions_at l old o.place) q.source)
    own_asked = rw at at own_parts.2

    pub own_ends : (e : Ending) (ys : List Fetch) → Ends b.loaded b.lane b.flight b.untold old new e → AllSettle b.flight q e o.fetches ys
        → HasMoved l (moved o o.over o.fetches (current.Own place b)) old new (moved o o.over ys current.Free)
    own_ends e ys f settled =
        let before : Open L = moved o o.over o.fetches (current.Own place b) in
        let more : List Entry = f.enters.entry ∷ [] in
        let vs = versions_at l old o.place in
        let stamp : ℕ = stamp_in vs q.source in
        let none = own_parts.0 in
        let left = ended_own l old new before b q stamp e h lawful h.current.0 h.current.1 f own_first own_asked ∙ ap (drop 1) own_parts.1 in
        let left_is = rw (f.enters.is) at left in
        let own : OwnIs {L = L} (after l (old ++ more)) vs o.queries (work_of (after l (old ++ more)) o.lane).own (drop o.over o.started) current.Free = rw none left_is in
        let coming : AllByRecursion (IsToCome l.script.schemas (after l (old ++ more)) vs) (drop o.over o.started) = rw none tt in
        let opens = ended_by l old new before b q stamp e h lawful h.current.0 h.current.1 f own_first own_asked o.over ys current.Free settled h.over own coming tt in
        record {
          moves = ended_moves l old new before b q stamp e h lawful h.current.0 h.current.1 f own_first own_asked refl;
          batch = record { held = rw (← f.enters.is) at opens; seen = tt };
          same = record { lane = refl; step = refl; place = refl };
          told = refl;
        }
