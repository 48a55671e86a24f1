-- What the work of a batch's flight asks.
use Rattle.std.proofs.Common.{◌≡◌, ℕ, zero, suc, ◌-◌, Bool, true, false, cond, List, [], ◌∷◌, ◌++◌, length, drop, map, filter, take, refl, sym, ap, ◌∙◌, arith}
use Rattle.std.proofs.lemmas.List.{take-append-drop}
use Rattle.std.specs.Prelude.{Option, Some, None, is_none, slice_get}
use Rattle.dq_base.specs.Batches.{roles}
use Rattle.dq_base.specs.Canonical.{canonical}
use Rattle.dq_base.specs.Headings.{Heading}
use Rattle.dq_base.specs.Validity.{invalid_by}
use Rattle.dq_base.specs.declared.canon.Role.{Role}
use Rattle.dq_base.specs.declared.canon.Role.TheVariants.{Remote, Local}
use Rattle.dq_base.specs.declared.query.Query.{Query}
use Rattle.dq_bring.specs.Flights.{KeyAt}
use Rattle.dq_bring.specs.Views.{BringingOf}
use Rattle.dq_extract.specs.Loads.{LoadedFiles}
use Rattle.dq_fates.proofs.Rows.{stamp_within, versions_go_on}
use Rattle.dq_journal.specs.declared.entry.Entry.{Entry}
use Rattle.dq_laws.proofs.CanonsValid.{canonical_valid}
use Rattle.dq_laws.proofs.Each.{Each}
use Rattle.dq_machine.specs.Machine.{after}
use Rattle.dq_machine.specs.Preparing.{canons_of, is_valid, remote_among, remotes_of}
use Rattle.dq_machine.specs.Publishing.{rows_at}
use Rattle.dq_machine.specs.State.{Publication, flight_at, work_of}
use Rattle.dq_desk.specs.Admissions.{AreStood, IsStood, StartedOf, StoodOf}
use Rattle.dq_trial.specs.Links.{IsNamed}
use Rattle.dq_batch.specs.Open.{AsksFor, IsBatch, IsOpen, IsToCome, OwnIs, versions_at, zones_at}
use Rattle.dq_batch.specs.declared.open.Current.{Current}
use Rattle.dq_batch.specs.declared.open.Current.TheVariants as current
use Rattle.dq_batch.specs.declared.open.Open.{Open}
use Rattle.dq_batch.proofs.Journals.{stood_rows}
use Rattle.dq_batch.proofs.Opens.{moved}

-- what stood is still named by its stamp

stood_named : (l : LoadedFiles) (schemas : List Heading) (journal : List Entry) (place source : ℕ) (st : StoodOf) → IsStood schemas (versions_at l journal place) source st
    → IsNamed schemas (after l journal).versions source (record { stamp = st.stamp; version = st.extract })
stood_named l schemas journal place source st h =
    let vs = versions_at l journal place in
    let before = take (place - 1) journal in
    let goes = versions_go_on l before (drop (place - 1) journal) in
    let more = goes.more in
    let whole : length (after l (before ++ drop (place - 1) journal)).versions ≡ length (after l journal).versions = ap (λ (es : List Entry). length (after l es).versions) (take-append-drop (place - 1) journal) in
    let low = stamp_within vs source in
    let stamp = h.stamp in
    record { stamp = omega (arith, stamp, low, more, whole); heading = h.heading; rows = h.rows ∙ sym (stood_rows l journal place source) ∙ ap (rows_at (after l journal).versions) (sym h.stamp) }

stood_at : (schemas : List Heading) (versions : List Publication) (queries : List Query) (stood : List StoodOf) (n : ℕ) (q : Query) (st : StoodOf) → AreStood schemas versions queries stood
    → slice_get queries n ≡ Some q → slice_get stood n ≡ Some st → IsStood schemas versions q.source st
stood_at schemas versions [] [] n q st all at here = let no : ⊥ = cc in absurd no
stood_at schemas versions [] (s ∷ stood) n q st all at here = absurd all
stood_at schemas versions (p ∷ queries) [] n q st all at here = absurd all
stood_at schemas versions (p ∷ queries) (s ∷ stood) zero q st all at here =
    let one : p ≡ q = cc in
    let two : s ≡ st = cc in rw (← one, ← two) all.0
stood_at schemas versions (p ∷ queries) (s ∷ stood) (suc n) q st all at here = stood_at schemas versions queries stood n q st all.1 at here

stood_some : (schemas : List Heading) (versions : List Publication) (queries : List Query) (stood : List StoodOf) (n : ℕ) (q : Query) → AreStood schemas versions queries stood
    → slice_get queries n ≡ Some q → slice_get stood n ≡ None → ⊥
stood_some schemas versions [] [] n q all at none = cc
stood_some schemas versions [] (s ∷ stood) n q all at none = all
stood_some schemas versions (p ∷ queries) [] n q all at none = all
stood_some schemas versions (p ∷ queries) (s ∷ stood) zero q all at none = cc
stood_some schemas versions (p ∷ queries) (s ∷ stood) (suc n) q all at none = stood_some schemas versions queries stood n q all.1 at none

-- remote queries are valid

none_is : {X : Type 0} (o : Option X) → is_none o ≡ true → o ≡ None
none_is None h = refl
none_is (Some x) h = let no : ⊥ = cc in absurd no

each_remote : (P : Query → Type 0) (rs : List Role) (qs : List Query) → Each P qs → Each P (remote_among rs qs)
each_remote P [] qs h = tt
each_remote P (Remote ∷ rs) [] h = tt
each_remote P (Remote ∷ rs) (q ∷ qs) h = (h.0, each_remote P rs qs h.1)
each_remote P (Local place ∷ rs) [] h = tt
each_remote P (Local place ∷ rs) (q ∷ qs) h = each_remote P rs qs h.1

canon_by : (schemas : List Heading) (q : Query) (b : Bool) (rest : List Query) → is_valid schemas q ≡ b → Each (λ (x : Query). is_valid schemas x ≡ true) (map canonical rest)
    → Each (λ (x : Query). is_valid schemas x ≡ true) (map canonical (cond b (q ∷ rest) rest))
canon_by schemas q true rest told h = (canonical_valid schemas q told, h)
canon_by schemas q false rest told h = h

each_canon : (schemas : List Heading) (zones : List Query) → Each (λ (x : Query). is_valid schemas x ≡ true) (canons_of schemas zones)
each_canon schemas [] = tt
each_canon schemas (q ∷ zones) = canon_by schemas q (is_valid schemas q) (filter (is_valid schemas) zones) refl (each_canon schemas zones)

each_got : (P : Query → Type 0) (qs : List Query) (n : ℕ) (q : Query) → Each P qs → slice_get qs n ≡ Some q → P q
each_got P [] n q all at = let no : ⊥ = cc in absurd no
each_got P (p ∷ qs) zero q all at = let same : p ≡ q = cc in rw (← same) all.0
each_got P (p ∷ qs) (suc n) q all at = each_got P qs n q all.1 at

remote_valid : (schemas : List Heading) (zones queries : List Query) (n : ℕ) (q : Query) → queries ≡ remotes_of schemas zones → slice_get queries n ≡ Some q → invalid_by schemas q ≡ None
remote_valid schemas zones queries n q is at =
    let at' = rw is at at in
    none_is (invalid_by schemas q)
    (each_got (λ (x : Query). is_valid schemas x ≡ true) (remotes_of schemas zones) n q
    (each_remote (λ (x : Query). is_valid schemas x ≡ true) (roles (canons_of schemas zones)) (canons_of schemas zones) (each_canon schemas zones)) at')

-- the first of those that were started

none_left : {X : Type 0} (xs : List X) (n : ℕ) → slice_get xs n ≡ None → drop n xs ≡ []
none_left [] zero at = refl
none_left [] (suc n) at = refl
none_left (x ∷ xs) zero at = let no : ⊥ = cc in absurd no
none_left (x ∷ xs) (suc n) at = none_left xs n at

some_left : {X : Type 0} (xs : List X) (n : ℕ) (x : X) → slice_get xs n ≡ Some x → drop n xs ≡ x ∷ drop (suc n) xs
some_left [] n x at = let no : ⊥ = cc in absurd no
some_left (y ∷ xs) zero x at = let same : y ≡ x = cc in ap (λ z. z ∷ xs) same
some_left (y ∷ xs) (suc n) x at = some_left xs n x at

module _ {L : Type 0} (l : LoadedFiles) (journal : List Entry) (o : Open L) (h : IsBatch l journal o) (b : BringingOf) where
  module _ (is : o.current ≡ current.Group b) where
    pub group_some : slice_get o.started o.over ≡ None → ⊥
    group_some none =
        let own = rw (none_left o.started o.over none, is) at h.held.own in own

    group_on : (b.loaded ≡ l) × (b.seen ≡ journal)
    group_on =
        let on = rw is at h.held.current in
        let seen = rw is at h.seen in (on.0, seen)

    module _ (t : StartedOf) (at : slice_get o.started o.over ≡ Some t) where
      group_comes : IsToCome l.script.schemas (after l journal) (versions_at l journal o.place) t
      group_comes = let left = some_left o.started o.over t at in let all = rw left at h.held.to_come in all.0

      group_flight : b.flight ≡ t.flight
      group_flight = let own = rw (some_left o.started o.over t at, is) at h.held.own in own.1

      pub group_key : KeyAt (flight_at (after b.loaded b.seen) b.flight) t.key t.stood.stamp
      group_key = rw (group_on.0, group_on.1, group_flight) group_comes.asked

      pub group_stood : IsNamed b.loaded.script.schemas (after b.loaded b.seen).versions t.key.source (record { stamp = t.stood.stamp; version = t.stood.extract })
      group_stood = rw (group_on.0, group_on.1) (stood_named l l.script.schemas journal o.place t.key.source t.stood group_comes.stood)

      pub group_valid : invalid_by b.loaded.script.schemas t.key ≡ None
      group_valid = rw (group_on.0) group_comes.valid

  module _ (place : ℕ) (is : o.current ≡ current.Own place b) where
    own_on : (b.loaded ≡ l) × (b.seen ≡ journal)
    own_on =
        let on = rw is at h.held.current in
        let seen = rw is at h.seen in (on.0, seen)

    own_asks : (ts : List StartedOf) (x : Current L) → x ≡ current.Own place b → OwnIs (after l journal) (versions_at l journal o.place) o.queries (work_of (after l journal) o.lane).own ts x
        → AsksFor (after l journal) (versions_at l journal o.place) (slice_get o.queries place) b.flight
    own_asks [] x e own = let there = rw e at own in there.1
    own_asks (t ∷ left) x e own = let there = rw e at own in absurd there

    asks : AsksFor (after l journal) (versions_at l journal o.place) (slice_get o.queries place) b.flight
    asks = own_asks (drop o.over o.started) o.current is h.held.own

    pub own_some : slice_get o.queries place ≡ None → ⊥
    own_some none = let there = rw none at asks in there

    module _ (q : Query) (at : slice_get o.queries place ≡ Some q) where
      pub own_stood_some : slice_get o.stood place ≡ None → ⊥
      own_stood_some none = stood_some l.script.schemas (versions_at l journal o.place) o.queries o.stood place q h.held.stood at none

      pub own_valid : invalid_by b.loaded.script.schemas q ≡ None
      own_valid = rw (own_on.0) (remote_valid l.script.schemas (zones_at l o.lane o.step) o.queries place q h.held.queries at)

      module _ (st : StoodOf) (here : slice_get o.stood place ≡ Some st) where
        stands : IsStood l.script.schemas (versions_at l journal o.place) q.source st
        stands = stood_at l.script.schemas (versions_at l journal o.place) o.queries o.stood place q st h.held.stood at here

        pub own_key : KeyAt (flight_at (after b.loaded b.seen) b.flight) q st.stamp
        own_key =
            let there = rw at at asks in
            rw (own_on.0, own_on.1, stands.stamp) there

        pub own_stood : IsNamed b.loaded.script.schemas (after b.loaded b.seen).versions q.source (record { stamp = st.stamp; version = st.extract })
        own_stood = rw (own_on.0, own_on.1) (stood_named l l.script.schemas journal o.place q.source st stands)

-- the flight is still where it was

pub group_worked : {L : Type 0} (l : LoadedFiles) (journal : List Entry) (o : Open L) (b c : BringingOf) → o.current ≡ current.Group b → c ≡ record b { pending = false; untold = c.untold } → IsBatch l journal o
    → IsBatch l journal (moved o o.over o.fetches (current.Group c))
group_worked {L = L} l journal o b c is same h =
    let own = rw is at h.held.own in
    let on = rw is at h.held.current in
    let seen = rw is at h.seen in
    let a = h.held in
    rw same (record {
      held = record {
        legal = a.legal;
        lane = a.lane;
        met = a.met;
        entry = a.entry;
        batch = a.batch;
        prepared = a.prepared;
        queries = a.queries;
        stood = a.stood;
        fetches = a.fetches;
        joins = a.joins;
        over = a.over;
        own = own_group (drop o.over o.started) own;
        to_come = a.to_come;
        current = on;
        last = a.last;
        unended = a.unended;
      };
      seen = seen;
    })
  where
    own_group : (ts : List StartedOf) → OwnIs {L = L} (after l journal) (versions_at l journal o.place) o.queries (work_of (after l journal) o.lane).own ts (current.Group b)
        → OwnIs {L = L} (after l journal) (versions_at l journal o.place) o.queries (work_of (after l journal) o.lane).own ts (current.Group (record b { pending = false; untold = c.untold }))
    own_group [] x = x
    own_group (t ∷ left) x = x

pub own_worked : {L : Type 0} (l : LoadedFiles) (journal : List Entry) (o : Open L) (place : ℕ) (b c : BringingOf) → o.current ≡ current.Own place b → c ≡ record b { pending = false; untold = c.untold } → IsBatch l journal o
    → IsBatch l journal (moved o o.over o.fetches (current.Own place c))
own_worked {L = L} l journal o place b c is same h =
    let own = rw is at h.held.own in
    let on = rw is at h.held.current in
    let seen = rw is at h.seen in
    let a = h.held in
    rw same (record {
      held = record {
        legal = a.legal;
        lane = a.lane;
        met = a.met;
        entry = a.entry;
        batch = a.batch;
        prepared = a.prepared;
        queries = a.queries;
        stood = a.stood;
        fetches = a.fetches;
        joins = a.joins;
        over = a.over;
        own = own_place (drop o.over o.started) own;
        to_come = a.to_come;
        current = on;
        last = a.last;
        unended = a.unended;
      };
      seen = seen;
    })
  where
    own_place : (ts : List StartedOf) → OwnIs {L = L} (after l journal) (versions_at l journal o.place) o.queries (work_of (after l journal) o.lane).own ts (current.Own place b)
        → OwnIs {L = L} (after l journal) (versions_at l journal o.place) o.queries (work_of (after l journal) o.lane).own ts (current.Own place (record b { pending = false; untold = c.untold }))
    own_place [] x = x
    own_place (t ∷ left) x = x

pub open_some : {L : Type 0} (l : LoadedFiles) (journal : List Entry) (o : Open L) (b : BringingOf) → IsOpen l journal (moved o o.over o.fetches (current.Group b)) → slice_get o.started o.over ≡ None → ⊥
open_some l journal o b h none = let left = none_left o.started o.over none in let own = rw left at h.own in own
