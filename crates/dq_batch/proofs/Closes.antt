-- A batch that is over.
use Rattle.std.proofs.Common.{◌≡◌, ℕ, ◌+◌, ◌<◌, ◌≤◌, Bool, true, ◌&&◌, List, [], ◌∷◌, ◌++◌, length, map, drop, refl, sym, ap, ◌∙◌, arith, append-nil}
use Rattle.std.proofs.lemmas.Grind.{flat_map-append}
use Rattle.std.proofs.lemmas.List.{drop-append-le}
use Rattle.std.specs.Arc.{arc_value}
use Rattle.std.specs.List.{flat_map}
use Rattle.std.specs.Prelude.{Option, Some, None}
use Rattle.dq_base.specs.Answers.{answer}
use Rattle.dq_base.specs.Batches.{roles}
use Rattle.dq_base.specs.Headings.{Heading}
use Rattle.dq_base.specs.declared.query.Query.{Query}
use Rattle.dq_extract.specs.Loads.{LoadedFiles}
use Rattle.dq_fates.proofs.GoingOn.{entries-append}
use Rattle.dq_fates.proofs.Rows.{rows_stand}
use Rattle.dq_journal.specs.Steps.{AreRefused, entries_of}
use Rattle.dq_journal.specs.Standing.{Rows, stand}
use Rattle.dq_journal.specs.declared.entry.Entry.{Entry}
use Rattle.dq_journal.specs.declared.entry.Entry.TheVariants.{Admit}
use Rattle.dq_journal.specs.declared.entry.Met.{Met}
use Rattle.dq_journal.specs.declared.entry.Met.TheVariants as meet
use Rattle.dq_journal.specs.declared.result.ZoneResult.{ZoneResult}
use Rattle.dq_machine.specs.Machine.{after, legal}
use Rattle.dq_machine.specs.Owning.{Fate, Answered, Failed, Wanting, fate, origins, over_zones, own_flights, started_behind, started_in, valid_origins, valid_places}
use Rattle.dq_machine.specs.Preparing.{canons_of, remotes_of}
use Rattle.dq_machine.specs.Publishing.{rows_in}
use Rattle.dq_machine.specs.Right.{AreOutcomes}
use Rattle.dq_machine.specs.State.{Publication, State, is_free, none_left, work_of}
use Rattle.dq_desk.specs.Admissions.{StartedOf}
use Rattle.dq_zones.specs.Answering as Answering
use Rattle.dq_zones.specs.Answering.{FitZones, IsBatch, origins_of}
use Rattle.dq_zones.proofs.Fits.{fits}
use Rattle.dq_zones.specs.Brought.{AreBrought, IsBrought}
use Rattle.dq_zones.specs.declared.fetch.Fetch.{Fetch}
use Rattle.dq_zones.specs.declared.fetch.Fetch.TheVariants as fetch
use Rattle.dq_batch.specs.Fetching.{AreFetches, HasNotFailed, IsFetch, IsWait, waits_of}
use Rattle.dq_batch.specs.Open.{IsFree, IsOpen, OwnIs, is_over, over_by, versions_at, zones_at}
use Rattle.dq_batch.specs.Settling.{is_not, none_waits, waited}
use Rattle.dq_batch.specs.declared.open.Current.{Current}
use Rattle.dq_batch.specs.declared.open.Current.TheVariants as current
use Rattle.dq_batch.specs.declared.open.Open.{Open}
use Rattle.dq_batch.proofs.Fetches.{fate_on}
use Rattle.dq_batch.proofs.Journals.{numbered_stays, numbered_within, versions_stay}
use Rattle.dq_batch.proofs.Looks.{free_own}
use Rattle.dq_batch.proofs.Opens.{above}
use Rattle.dq_batch.proofs.Takes.{fetches_long}

-- what no later entry changes

takes_behind : (journal more : List Entry) (lane place : ℕ) → place ≤ length journal → started_behind (journal ++ more) lane place ≡ started_behind journal lane place ++ flat_map started_in (entries_of lane more)
takes_behind journal more lane place within =
    ap (λ es. flat_map started_in (entries_of lane es)) (drop-append-le place journal more within)
    ∙ ap (flat_map started_in) (entries-append lane (drop place journal) more)
    ∙ flat_map-append started_in (entries_of lane (drop place journal)) (entries_of lane more)

brought_by : (f g : Fate) (rows : Rows) (q : Query) (x : Fetch) → g ≡ f → IsBrought f rows q x → IsBrought g rows q x
brought_by f g rows q x same h = rw same h

memory_by : (f : Fate) (rows : Rows) (q : Query) → HasNotFailed f → IsBrought f rows q fetch.Memory
memory_by Answered rows q h = tt
memory_by Failed rows q h = h
memory_by Wanting rows q h = tt

not_first : (o : Option ℕ) (rest : Bool) → is_not o rest ≡ true → (o ≡ None) × (rest ≡ true)
not_first None rest h = (refl, h)
not_first (Some n) rest h = let no : ⊥ = cc in absurd no

module _ (l : LoadedFiles) (journal more : List Entry) (lane : ℕ) (versions : List Publication) (standing : ℕ → Rows) (lawful : legal l (journal ++ more) ≡ true) (up : 0 < lane)
    (none : (work_of (after l journal) lane).own ≡ []) (rows : (source : ℕ) → standing source ≡ rows_in versions source) where
  fetch_brought : (own : Option ℕ) (q : Query) (x : Fetch) → IsFetch journal (after l journal) lane versions own q x → IsBrought (fate (journal ++ more) own) (standing q.source) q x
  fetch_brought own q (fetch.Waiting n) h = absurd h
  fetch_brought own q (fetch.Flying n) h = let mine = rw none at h.1 in let no : ⊥ = cc in absurd no
  fetch_brought own q (fetch.Brought key table) h =
      brought_by Answered (fate (journal ++ more) own) (standing q.source) q (fetch.Brought key table) (fate_on l journal more lane versions lawful up own h.1 ∙ h.0)
      (h.2, h.3 ∙ ap (answer (arc_value key)) (sym (rows q.source)))
  fetch_brought own q fetch.BackEnd h =
      brought_by Failed (fate (journal ++ more) own) (standing q.source) q fetch.BackEnd (fate_on l journal more lane versions lawful up own h.1 ∙ h.0) tt
  fetch_brought own q fetch.Memory h =
      brought_by (fate journal own) (fate (journal ++ more) own) (standing q.source) q fetch.Memory (fate_on l journal more lane versions lawful up own h.1) (memory_by (fate journal own) (standing q.source) q h.0)

  no_wait : (n : ℕ) (q : Query) (x : Fetch) → waited x ≡ None → IsWait journal (after l journal) lane versions n q x → ⊥
  no_wait n q (fetch.Waiting m) e h = cc
  no_wait n q (fetch.Flying m) e h = h
  no_wait n q (fetch.Brought k t) e h = h
  no_wait n q fetch.BackEnd e h = h
  no_wait n q fetch.Memory e h = h

  are_brought : (extra : List (Option ℕ)) (met : List Met) (takes : List (Option ℕ)) (queries : List Query) (xs : List Fetch) → none_waits xs ≡ true
      → AreFetches journal (after l journal) lane versions met takes queries xs → AreBrought standing (journal ++ more) (own_flights met (takes ++ extra)) queries xs
  are_brought extra [] takes [] [] ended h = tt
  are_brought extra [] takes [] (x ∷ xs) ended h = absurd h
  are_brought extra [] takes (q ∷ queries) xs ended h = absurd h
  are_brought extra (m ∷ met) takes [] xs ended h = absurd h
  are_brought extra (m ∷ met) takes (q ∷ queries) [] ended h = absurd h
  are_brought extra (meet.Hit f ∷ met) takes (q ∷ queries) (x ∷ xs) ended h =
      (fetch_brought None q x h.0, are_brought extra met takes queries xs (not_first (waited x) (none_waits xs) ended).1 h.1)
  are_brought extra (meet.Literal f ∷ met) takes (q ∷ queries) (x ∷ xs) ended h =
      (fetch_brought None q x h.0, are_brought extra met takes queries xs (not_first (waited x) (none_waits xs) ended).1 h.1)
  are_brought extra (meet.Group f ∷ met) takes (q ∷ queries) (x ∷ xs) ended h =
      (fetch_brought (Some f) q x h.0, are_brought extra met takes queries xs (not_first (waited x) (none_waits xs) ended).1 h.1)
  are_brought extra (meet.Join f ∷ met) [] (q ∷ queries) (x ∷ xs) ended h = absurd (no_wait f q x (not_first (waited x) (none_waits xs) ended).0 h.0)
  are_brought extra (meet.Join f ∷ met) (t ∷ takes) (q ∷ queries) (x ∷ xs) ended h =
      (fetch_brought t q x h.0, are_brought extra met takes queries xs (not_first (waited x) (none_waits xs) ended).1 h.1)

-- when it is over

over_parts : {L : Type 0} (x : Current L) (none : Bool) → over_by x none ≡ true → IsFree x × (none ≡ true)
over_parts current.Free none h = (tt, h)
over_parts (current.Group b) none h = let no : ⊥ = cc in absurd no
over_parts (current.Own p b) none h = let no : ⊥ = cc in absurd no

none_joins : (versions : List Publication) (queries : List Query) (xs : List Fetch) → length queries ≡ length xs → none_left (waits_of versions queries xs) ≡ none_waits xs
none_joins versions [] [] long = refl
none_joins versions [] (x ∷ xs) long = absurd (omega (arith, long))
none_joins versions (q ∷ queries) [] long = absurd (omega (arith, long))
none_joins versions (q ∷ queries) (fetch.Waiting n ∷ xs) long = refl
none_joins versions (q ∷ queries) (fetch.Flying n ∷ xs) long = let left : length queries ≡ length xs = omega (arith, long) in none_joins versions queries xs left
none_joins versions (q ∷ queries) (fetch.Brought k t ∷ xs) long = let left : length queries ≡ length xs = omega (arith, long) in none_joins versions queries xs left
none_joins versions (q ∷ queries) (fetch.BackEnd ∷ xs) long = let left : length queries ≡ length xs = omega (arith, long) in none_joins versions queries xs left
none_joins versions (q ∷ queries) (fetch.Memory ∷ xs) long = let left : length queries ≡ length xs = omega (arith, long) in none_joins versions queries xs left

free_by : {L : Type 0} (s : State) (versions : List Publication) (queries : List Query) (own : List ℕ) (ts : List StartedOf) (x : Current L) (none : Bool) → OwnIs s versions queries own ts x
    → (none_left own && none) ≡ over_by x none
free_by s versions queries own [] current.Free none h = rw h refl
free_by s versions queries own [] (current.Group b) none h = absurd h
free_by s versions queries own [] (current.Own p b) none h = rw (h.0) refl
free_by s versions queries own (t ∷ left) current.Free none h = absurd h
free_by s versions queries own (t ∷ left) (current.Group b) none h = rw (h.0) refl
free_by s versions queries own (t ∷ left) (current.Own p b) none h = absurd h

-- the lane is free exactly where the batch is over
pub free_over : {L : Type 0} (l : LoadedFiles) (journal : List Entry) (o : Open L) → IsOpen l journal o → is_free (work_of (after l journal) o.lane) ≡ is_over o
free_over l journal o h =
    let s = after l journal in
    let vs = versions_at l journal o.place in
    let long = fetches_long journal s o.lane vs h.met (started_behind journal o.lane o.place) o.queries o.fetches h.fetches in
    let joins : none_left (work_of s o.lane).joins ≡ none_waits o.fetches = rw (h.joins) (none_joins vs o.queries o.fetches long) in
    rw (h.unended, joins) (free_by s vs o.queries (work_of s o.lane).own (drop o.over o.started) o.current (none_waits o.fetches) h.own)

-- its zones are answered as their fates have it, whatever comes later

module _ {L : Type 0} (l : LoadedFiles) (seen more : List Entry) (o : Open L) (h : IsOpen l seen o) (ended : is_over o ≡ true) (lawful : legal l (seen ++ more) ≡ true) where
  place_within : o.place ≤ length seen
  place_within = (numbered_within seen o.place (Admit o.lane o.step h.met) h.entry).1

  stands : (source : ℕ) → stand l (seen ++ more) o.place source ≡ rows_in (versions_at l seen o.place) source
  stands source = sym (rows_stand l (seen ++ more) o.place source) ∙ ap (λ vs. rows_in vs source) (versions_stay l seen more o.place place_within)

  pub brought_all : AreBrought (stand l (seen ++ more) o.place) (seen ++ more) (own_flights h.met (started_behind (seen ++ more) o.lane o.place)) (remotes_of l.script.schemas (zones_at l o.lane o.step)) o.fetches
  brought_all =
      let both = over_parts o.current (none_waits o.fetches) ended in
      let vs = versions_at l seen o.place in
      let none = (free_own (after l seen) vs o.queries (work_of (after l seen) o.lane).own (drop o.over o.started) o.current both.0 h.own).0 in
      rw (← h.queries, takes_behind seen more o.lane o.place place_within)
      (are_brought l seen more o.lane vs (stand l (seen ++ more) o.place) lawful (above l seen more o h lawful) none stands (flat_map started_in (entries_of o.lane more)) h.met
      (started_behind seen o.lane o.place) o.queries o.fetches both.1 h.fetches)

  -- the batch as it is answered
  abbrev answered : Answering.BatchOf
  answered = record {
    schemas = l.script.schemas;
    zones = zones_at l o.lane o.step;
    rows = stand l (seen ++ more) o.place;
    journal = seen ++ more;
    owns = own_flights h.met (started_behind (seen ++ more) o.lane o.place);
  }

  pub is_batch : IsBatch answered o.prepared o.fetches
  is_batch = record { canons = h.prepared.prepared.canons; roles = h.prepared.prepared.roles; zones = h.prepared.zones_are; brought = brought_all }

  -- what is said of the answers, for all that may be meant
  abbrev Answers : List ZoneResult → List ZoneResult → Type 0
  Answers before outcomes = (b : Answering.BatchOf) → IsBatch b o.prepared o.fetches → AreRefused b.schemas b.zones before
      → AreOutcomes b.schemas b.rows b.journal (origins_of b) b.zones outcomes

  pub closes : (before outcomes : List ZoneResult) → AreRefused l.script.schemas (zones_at l o.lane o.step) before → Answers before outcomes
      → AreOutcomes l.script.schemas (stand l (seen ++ more) o.place) (seen ++ more) (origins l.script.schemas (seen ++ more) o.lane o.place (zones_at l o.lane o.step)) (zones_at l o.lane o.step) outcomes
  closes before outcomes refused answers =
      let entry = numbered_stays seen more o.place (Admit o.lane o.step h.met) h.entry in
      let out = answers answered is_batch refused in
      rw entry out

pub fits_over : {L : Type 0} (l : LoadedFiles) (seen : List Entry) (o : Open L) (h : IsOpen l seen o) → is_over o ≡ true → (before : List ZoneResult) → AreRefused l.script.schemas (zones_at l o.lane o.step) before
    → FitZones (length before) o.prepared o.fetches
fits_over l seen o h ended before refused = fits (answered l seen [] o h ended (rw (append-nil seen) h.legal)) o.prepared o.fetches (is_batch l seen [] o h ended (rw (append-nil seen) h.legal)) before refused
