-- A batch under way, behind later entries.
use Rattle.std.proofs.Common.{◌≡◌, inl, inr, ℕ, ◌-◌, ◌<◌, ◌≤◌, true, false, List, [], ◌∷◌, ◌++◌, length, map, drop, refl, sym, ap, subst, ◌∙◌, arith}
use Rattle.std.proofs.lemmas.Bool.Decides.{nat_tests}
use Rattle.std.specs.List.{AllByRecursion}
use Rattle.std.specs.Prelude.{Option, Some, None, is_none, nat_le, nat_lt, slice_get}
use Rattle.dq_base.specs.Headings.{Heading}
use Rattle.dq_base.specs.Scripts.{is_lane}
use Rattle.dq_base.specs.declared.query.Query.{Query}
use Rattle.dq_extract.specs.Loads.{LoadedFiles}
use Rattle.dq_fates.proofs.GoingOn.{goes_on_more}
use Rattle.dq_fates.proofs.Takes.{takes_stay}
use Rattle.dq_fates.specs.GoingOn.{GoesOn}
use Rattle.dq_journal.specs.Steps.{entries_of}
use Rattle.dq_journal.specs.declared.entry.Entry.{Entry}
use Rattle.dq_journal.specs.declared.entry.Entry.TheVariants.{Admit}
use Rattle.dq_laws.proofs.Apart.{idle_stays}
use Rattle.dq_laws.proofs.Each.{Each}
use Rattle.dq_laws.proofs.Goes.{legal_reached}
use Rattle.dq_laws.proofs.Joiners.{joins_found}
use Rattle.dq_laws.proofs.Owned.{Among}
use Rattle.dq_machine.proofs.Reached.{and_first}
use Rattle.dq_machine.specs.Machine.{after, legal}
use Rattle.dq_machine.specs.Owning.{started_behind}
use Rattle.dq_machine.specs.Publishing.{stamp_in}
use Rattle.dq_machine.specs.State.{Publication, State, flight_at, work_of}
use Rattle.dq_desk.specs.Admissions.{AreStood, StartedOf}
use Rattle.dq_zones.specs.declared.fetch.Fetch.{Fetch}
use Rattle.dq_zones.specs.declared.fetch.Fetch.TheVariants as fetch
use Rattle.dq_batch.specs.Fetching.{AreFetches, IsFetch, waits_of}
use Rattle.dq_batch.specs.Open.{AsksFor, IsCurrentOn, IsOpen, IsToCome, OwnIs, versions_at}
use Rattle.dq_batch.specs.Views.{BatchOf, batch_view}
use Rattle.dq_batch.specs.declared.open.Current.{Current}
use Rattle.dq_batch.specs.declared.open.Current.TheVariants as current
use Rattle.dq_batch.specs.declared.open.Open.{Open}
use Rattle.dq_batch.proofs.Fetches.{IsThere, StillOwn, covers_later, fetch_on}
use Rattle.dq_batch.proofs.Journals.{numbered_stays, numbered_within, versions_stay}
use Rattle.dq_batch.proofs.Keeps.{Alike, flight_keeps, key_on, own_there}
use Rattle.dq_batch.proofs.Takes.{fetches_same}

pub above_lane : (lanes lane : ℕ) → is_lane lanes lane ≡ true → 0 < lane
above_lane lanes lane h = let first : nat_lt 0 lane ≡ true = and_first (nat_lt 0 lane) (nat_le lane lanes) h in grind (arith, nat_tests)

-- flights that are still to be brought

abbrev pub flights_of : List StartedOf → List ℕ
flights_of ts = map (λ (x : StartedOf). x.flight) ts

module _ (s s' : State) (versions : List Publication) (alike : (n : ℕ) → Alike (flight_at s n) (flight_at s' n)) where
  pub coming_on : (schemas : List Heading) (ts : List StartedOf) → ((n : ℕ) → Among n (flights_of ts) → is_none (flight_at s' n) ≡ false) → AllByRecursion (IsToCome schemas s versions) ts
      → AllByRecursion (IsToCome schemas s' versions) ts
  coming_on schemas [] there h = tt
  coming_on schemas (t ∷ ts) there h = (
    record { valid = h.0.valid; stood = h.0.stood; asked = key_on t.key t.stood.stamp (flight_at s t.flight) (flight_at s' t.flight) h.0.asked (alike t.flight) (there t.flight (inl refl)) },
    coming_on schemas ts (λ n a. there n (inr a)) h.1,
  )

  asks_on : (o : Option Query) (flight : ℕ) → is_none (flight_at s' flight) ≡ false → AsksFor s versions o flight → AsksFor s' versions o flight
  asks_on None flight there h = h
  asks_on (Some q) flight there h = key_on q (stamp_in versions q.source) (flight_at s flight) (flight_at s' flight) h (alike flight) there

  module _ {L : Type 0} where
    -- the same flight is brought, if any
    abbrev pub SameFlight : Current L → Current L → Type 0
    SameFlight current.Free current.Free = Unit {0}
    SameFlight current.Free (current.Group c) = ⊥
    SameFlight current.Free (current.Own r c) = ⊥
    SameFlight (current.Group b) current.Free = ⊥
    SameFlight (current.Group b) (current.Group c) = c.flight ≡ b.flight
    SameFlight (current.Group b) (current.Own r c) = ⊥
    SameFlight (current.Own p b) current.Free = ⊥
    SameFlight (current.Own p b) (current.Group c) = ⊥
    SameFlight (current.Own p b) (current.Own r c) = (r ≡ p) × (c.flight ≡ b.flight)

    own_on : (queries : List Query) (own : List ℕ) (ts : List StartedOf) (x y : Current L) → ((n : ℕ) → Among n own → is_none (flight_at s' n) ≡ false) → SameFlight x y
        → OwnIs s versions queries own ts x → OwnIs s' versions queries own ts y
    own_on queries own [] current.Free current.Free there same h = h
    own_on queries own [] current.Free (current.Group c) there same h = absurd same
    own_on queries own [] current.Free (current.Own r c) there same h = absurd same
    own_on queries own [] (current.Group b) y there same h = absurd h
    own_on queries own [] (current.Own p b) current.Free there same h = absurd same
    own_on queries own [] (current.Own p b) (current.Group c) there same h = absurd same
    own_on queries own [] (current.Own p b) (current.Own r c) there same h =
        let mine : Among b.flight own = rw h.0 (inl refl) in
        rw (same.0, same.1) (h.0, asks_on (slice_get queries p) b.flight (there b.flight mine) h.1)
    own_on queries own (t ∷ left) current.Free y there same h = absurd h
    own_on queries own (t ∷ left) (current.Group b) current.Free there same h = absurd same
    own_on queries own (t ∷ left) (current.Group b) (current.Group c) there same h = (h.0, same ∙ h.1)
    own_on queries own (t ∷ left) (current.Group b) (current.Own r c) there same h = absurd same
    own_on queries own (t ∷ left) (current.Own p b) y there same h = absurd h

pub same_flight : {L : Type 0} (s s' : State) (versions : List Publication) (alike : (n : ℕ) → Alike (flight_at s n) (flight_at s' n)) (x : Current L) → SameFlight s s' versions alike x x
same_flight s s' versions alike current.Free = tt
same_flight s s' versions alike (current.Group b) = refl
same_flight s s' versions alike (current.Own p b) = (refl, refl)

pub coming_own : {L : Type 0} (s : State) (versions : List Publication) (queries : List Query) (own : List ℕ) (ts : List StartedOf) (x : Current L) (n : ℕ) → OwnIs s versions queries own ts x
    → Among n (flights_of ts) → Among n own
coming_own s versions queries own [] x n h a = absurd a
coming_own s versions queries own (t ∷ left) current.Free n h a = absurd h
coming_own s versions queries own (t ∷ left) (current.Group b) n h a = rw h.0 a
coming_own s versions queries own (t ∷ left) (current.Own p b) n h a = absurd h

-- a batch that is further

abbrev pub moved : {L : Type 0} → Open L → ℕ → List Fetch → Current L → Open L
moved o over fetches now = record o { over = over; fetches = fetches; current = now }

module _ {L : Type 0} (l : LoadedFiles) (journal more : List Entry) (o : Open L) (h : IsOpen l journal o) (lawful : legal l (journal ++ more) ≡ true) where
  pub above : 0 < o.lane
  above = above_lane (length l.script.lanes) o.lane h.lane

  pub within : o.place ≤ length journal
  within = (numbered_within journal o.place (Admit o.lane o.step h.met) h.entry).1

  same_versions : versions_at l journal o.place ≡ versions_at l (journal ++ more) o.place
  same_versions = sym (versions_stay l journal more o.place within)

  pub open_by : (over : ℕ) (fetches : List Fetch) (now : Current L)
      → AreFetches (journal ++ more) (after l (journal ++ more)) o.lane (versions_at l journal o.place) h.met (started_behind (journal ++ more) o.lane o.place) o.queries fetches
      → (work_of (after l (journal ++ more)) o.lane).joins ≡ waits_of (versions_at l journal o.place) o.queries fetches
      → over ≤ length o.started
      → OwnIs (after l (journal ++ more)) (versions_at l journal o.place) o.queries (work_of (after l (journal ++ more)) o.lane).own (drop over o.started) now
      → AllByRecursion (IsToCome l.script.schemas (after l (journal ++ more)) (versions_at l journal o.place)) (drop over o.started)
      → IsCurrentOn l o.lane (journal ++ more) now
      → (work_of (after l (journal ++ more)) o.lane).last ≡ o.step
      → (work_of (after l (journal ++ more)) o.lane).ended ≡ false
      → IsOpen l (journal ++ more) (moved o over fetches now)
  open_by over fetches now are joins few own coming on last unended =
      let s' = after l (journal ++ more) in
      record {
        legal = lawful;
        lane = h.lane;
        met = h.met;
        entry = numbered_stays journal more o.place (Admit o.lane o.step h.met) h.entry;
        batch = h.batch;
        prepared = h.prepared;
        queries = h.queries;
        stood = subst (λ (vs : List Publication). AreStood l.script.schemas vs o.queries o.stood) same_versions h.stood;
        fetches = subst (λ (vs : List Publication). AreFetches (journal ++ more) s' o.lane vs h.met (started_behind (journal ++ more) o.lane o.place) o.queries fetches) same_versions are;
        joins = joins ∙ ap (λ vs. waits_of vs o.queries fetches) same_versions;
        over = few;
        own = subst (λ (vs : List Publication). OwnIs s' vs o.queries (work_of s' o.lane).own (drop over o.started) now) same_versions own;
        to_come = subst (λ (vs : List Publication). AllByRecursion (IsToCome l.script.schemas s' vs) (drop over o.started)) same_versions coming;
        current = on;
        last = last;
        unended = unended;
      }

  -- what is waited for is there
  pub all_there : (fetches : List Fetch) → (work_of (after l (journal ++ more)) o.lane).joins ≡ waits_of (versions_at l journal o.place) o.queries fetches
      → Each (IsThere (after l (journal ++ more))) (waits_of (versions_at l journal o.place) o.queries fetches)
  all_there fetches joins =
      let s' = after l (journal ++ more) in rw (← joins) (joins_found l s' (o.lane - 1) (legal_reached l (journal ++ more) lawful))

  pub own_stands : (n : ℕ) → Among n (work_of (after l (journal ++ more)) o.lane).own → is_none (flight_at (after l (journal ++ more)) n) ≡ false
  own_stands n a = own_there l (journal ++ more) o.lane n lawful above a

  pub alike_later : (n : ℕ) → Alike (flight_at (after l journal) n) (flight_at (after l (journal ++ more)) n)
  alike_later n = flight_keeps l journal more n lawful

  -- the lane's work is as it was, but for how far its first flight is
  module _ (own_same : (work_of (after l (journal ++ more)) o.lane).own ≡ (work_of (after l journal) o.lane).own)
      (joins_same : (work_of (after l (journal ++ more)) o.lane).joins ≡ (work_of (after l journal) o.lane).joins)
      (last_same : (work_of (after l (journal ++ more)) o.lane).last ≡ (work_of (after l journal) o.lane).last)
      (ended_same : (work_of (after l (journal ++ more)) o.lane).ended ≡ (work_of (after l journal) o.lane).ended)
      (takes_same : started_behind (journal ++ more) o.lane o.place ≡ started_behind journal o.lane o.place) where
    still_own : (own : Option ℕ) (q : Query) (x : Fetch) → IsFetch journal (after l journal) o.lane (versions_at l journal o.place) own q x
        → StillOwn (work_of (after l (journal ++ more)) o.lane).own x
    still_own own q (fetch.Waiting n) f = absurd f
    still_own own q (fetch.Flying n) f = rw own_same f.1
    still_own own q (fetch.Brought k t) f = tt
    still_own own q fetch.BackEnd f = tt
    still_own own q fetch.Memory f = tt

    pub open_stays : (now : Current L) → SameFlight (after l journal) (after l (journal ++ more)) (versions_at l journal o.place) alike_later o.current now
        → IsCurrentOn l o.lane (journal ++ more) now → IsOpen l (journal ++ more) (moved o o.over o.fetches now)
    open_stays now same on =
        let s = after l journal in
        let s' = after l (journal ++ more) in
        let vs = versions_at l journal o.place in
        let joins = joins_same ∙ h.joins in
        let there : (n : ℕ) → Among n (work_of s o.lane).own → is_none (flight_at s' n) ≡ false = λ n a. own_stands n (rw own_same a) in
        let own = own_on s s' vs alike_later o.queries (work_of s o.lane).own (drop o.over o.started) o.current now there same h.own in
        open_by o.over o.fetches now
        (rw takes_same (fetches_same journal (journal ++ more) s s' o.lane vs (λ own q x f. fetch_on l journal more o.lane vs lawful above own q x (still_own own q x f) f)
        (covers_later l journal more o.lane vs lawful above) h.met (started_behind journal o.lane o.place) o.queries o.fetches (all_there o.fetches joins) h.fetches))
        joins h.over (rw own_same own)
        (coming_on s s' vs alike_later l.script.schemas (drop o.over o.started) (λ n a. there n (coming_own s vs o.queries (work_of s o.lane).own (drop o.over o.started) o.current n h.own a)) h.to_come)
        on (last_same ∙ h.last) (ended_same ∙ h.unended)

-- other lanes' entries

current_on : {L : Type 0} (l : LoadedFiles) (lane : ℕ) (journal new : List Entry) (x : Current L) → GoesOn lane journal new → IsCurrentOn l lane journal x → IsCurrentOn l lane new x
current_on l lane journal new current.Free on h = h
current_on l lane journal new (current.Group b) on h = (h.0, h.1, goes_on_more lane b.seen journal new h.2 on)
current_on l lane journal new (current.Own p b) on h = (h.0, h.1, goes_on_more lane b.seen journal new h.2 on)

open_idle : {L : Type 0} (l : LoadedFiles) (journal more : List Entry) (o : Open L) → entries_of o.lane more ≡ [] → legal l (journal ++ more) ≡ true → IsOpen l journal o → IsOpen l (journal ++ more) o
open_idle l journal more o idle lawful h =
    let same = (idle_stays l journal more o.lane lawful (above l journal more o h lawful) idle).work in
    let alike = alike_later l journal more o h lawful in
    open_stays l journal more o h lawful (ap (λ w. w.own) same) (ap (λ w. w.joins) same) (ap (λ w. w.last) same) (ap (λ w. w.ended) same)
    (takes_stay journal more o.lane o.place idle (within l journal more o h lawful)) o.current
    (same_flight (after l journal) (after l (journal ++ more)) (versions_at l journal o.place) alike o.current)
    (current_on l o.lane journal (journal ++ more) o.current (record { more = more; is = refl; idle = idle }) h.current)

pub open_on : {L : Type 0} (l : LoadedFiles) (journal new : List Entry) (o : Open L) → GoesOn o.lane journal new → legal l new ≡ true → IsOpen l journal o → IsOpen l new o
open_on l journal new o on lawful h =
    let longer : legal l (journal ++ on.more) ≡ true = rw (← on.is) lawful in
    subst (λ (es : List Entry). IsOpen l es o) (sym on.is) (open_idle l journal on.more o on.idle longer h)

-- as contracts see it
pub view_open : {L : Type 0} (v : BatchOf) (l loaded shared : LoadedFiles) (seen journal : List Entry) (o : Open L) → batch_view l seen o ≡ v → loaded ≡ v.loaded → shared ≡ v.loaded → GoesOn v.lane v.seen journal
    → legal shared journal ≡ true → IsOpen l seen o → IsOpen loaded journal o
view_open v l loaded shared seen journal o view is same on lawful h =
    let on' : GoesOn o.lane seen journal = subst (λ (x : BatchOf). GoesOn x.lane x.seen journal) (sym view) on in
    let whole : loaded ≡ l = is ∙ sym (ap (λ (x : BatchOf). x.loaded) view) in
    let both : shared ≡ l = same ∙ sym (ap (λ (x : BatchOf). x.loaded) view) in
    let lawful' : legal l journal ≡ true = rw (← both) lawful in
    rw whole (open_on l seen journal o on' lawful' h)
