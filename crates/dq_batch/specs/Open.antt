-- What a batch under way keeps.
use Rattle.std.specs.Prelude.{◌≡◌, ⊤, ℕ, ◌-◌, ◌≤◌, Bool, true, false, List, [], ◌∷◌, drop, take, length, map, slice_get, Option, Some, None}
use Rattle.std.specs.List.{AllByRecursion}
use Rattle.dq_base.specs.Headings.{Heading}
use Rattle.dq_base.specs.Scripts.{is_lane, numbered, step_of, zones_of}
use Rattle.dq_base.specs.Validity.{invalid_by}
use Rattle.dq_base.specs.declared.query.Query.{Query}
use Rattle.dq_bring.specs.Flights.{KeyAt}
use Rattle.dq_bring.specs.Views.{BringingOf}
use Rattle.dq_extract.specs.Loads.{LoadedFiles}
use Rattle.dq_fates.specs.GoingOn.{GoesOn}
use Rattle.dq_journal.specs.declared.entry.Met.{Met}
use Rattle.dq_journal.specs.declared.entry.Entry.{Entry}
use Rattle.dq_journal.specs.declared.entry.Entry.TheVariants.{Admit}
use Rattle.dq_machine.specs.Admitting.{is_batch}
use Rattle.dq_machine.specs.Machine.{after, legal}
use Rattle.dq_machine.specs.Owning.{started_behind}
use Rattle.dq_machine.specs.Preparing.{remotes_of}
use Rattle.dq_machine.specs.Publishing.{stamp_in}
use Rattle.dq_machine.specs.State.{Publication, State, flight_at, work_of}
use Rattle.dq_desk.specs.Admissions.{AreStood, IsStood, StartedOf}
use Rattle.dq_batch.specs.Fetching.{AreFetches, waits_of}
use Rattle.dq_batch.specs.Prepared.{IsPreparedFor}
use Rattle.dq_batch.specs.Settling.{none_waits}
use Rattle.dq_batch.specs.declared.open.Current.{Current}
use Rattle.dq_batch.specs.declared.open.Current.TheVariants as current
use Rattle.dq_batch.specs.declared.open.Open.{Open}

-- the journal goes on from where the flight that is brought stands
abbrev pub IsOn : LoadedFiles → ℕ → List Entry → BringingOf → Type 0
IsOn l lane journal b = (b.loaded ≡ l) × (b.lane ≡ lane) × GoesOn lane b.seen journal

-- the flight is for the query at a place, at the stamp that stood of its source
abbrev pub AsksFor : State → List Publication → Option Query → ℕ → Type 0
AsksFor s versions None flight = ⊥
AsksFor s versions (Some q) flight = KeyAt (flight_at s flight) q (stamp_in versions q.source)

module _ {L : Type 0} where
  abbrev pub IsFree : Current L → Type 0
  IsFree current.Free = ⊤
  IsFree (current.Group b) = ⊥
  IsFree (current.Own place b) = ⊥

  -- nothing is left to be brought or taken
  abbrev pub over_by : Current L → Bool → Bool
  over_by current.Free none = none
  over_by (current.Group b) none = false
  over_by (current.Own place b) none = false

  abbrev pub is_over : Open L → Bool
  is_over o = over_by o.current (none_waits o.fetches)

  abbrev pub pending_in : Current L → Bool
  pending_in current.Free = false
  pending_in (current.Group b) = b.pending
  pending_in (current.Own place b) = b.pending

  abbrev pub untold_in : Current L → Bool
  untold_in current.Free = false
  untold_in (current.Group b) = b.untold
  untold_in (current.Own place b) = b.untold

  abbrev pub IsCurrentOn : LoadedFiles → ℕ → List Entry → Current L → Type 0
  IsCurrentOn l lane journal current.Free = Unit {0}
  IsCurrentOn l lane journal (current.Group b) = IsOn l lane journal b
  IsCurrentOn l lane journal (current.Own place b) = IsOn l lane journal b

  -- it stands where the journal is
  abbrev pub IsSeen : List Entry → Current L → Type 0
  IsSeen journal current.Free = Unit {0}
  IsSeen journal (current.Group b) = b.seen ≡ journal
  IsSeen journal (current.Own place b) = b.seen ≡ journal

  -- the lane's own flights are those that were started and aren't over, or the one in place of a flight that fell
  abbrev pub OwnIs : State → List Publication → List Query → List ℕ → List StartedOf → Current L → Type 0
  OwnIs s versions queries own [] current.Free = own ≡ []
  OwnIs s versions queries own [] (current.Group b) = ⊥
  OwnIs s versions queries own [] (current.Own place b) = (own ≡ b.flight ∷ []) × AsksFor s versions (slice_get queries place) b.flight
  OwnIs s versions queries own (t ∷ left) current.Free = ⊥
  OwnIs s versions queries own (t ∷ left) (current.Group b) = (own ≡ map (λ (x : StartedOf). x.flight) (t ∷ left)) × (b.flight ≡ t.flight)
  OwnIs s versions queries own (t ∷ left) (current.Own place b) = ⊥

-- a flight that is still to be brought: its key is valid, and it is the machine's
pub record IsToCome (schemas : List Heading) (s : State) (versions : List Publication) (t : StartedOf) : Type 0 where
  pub valid : invalid_by schemas t.key ≡ None
  pub stood : IsStood schemas versions t.key.source t.stood
  pub asked : KeyAt (flight_at s t.flight) t.key t.stood.stamp

abbrev pub zones_at : LoadedFiles → ℕ → ℕ → List Query
zones_at l lane step = zones_of (step_of l.script.lanes lane step)

-- what was published before an entry at this place
abbrev pub versions_at : LoadedFiles → List Entry → ℕ → List Publication
versions_at l journal place = (after l (take (place - 1) journal)).versions

pub record IsOpen {L : Type 0} (l : LoadedFiles) (journal : List Entry) (o : Open L) : Type 0 where
  pub legal : legal l journal ≡ true
  pub lane : is_lane (length l.script.lanes) o.lane ≡ true
  pub met : List Met
  pub entry : numbered journal o.place ≡ Some (Admit o.lane o.step met)
  pub batch : is_batch (step_of l.script.lanes o.lane o.step) ≡ true
  pub prepared : IsPreparedFor l.script.schemas (zones_at l o.lane o.step) o.prepared
  pub queries : o.queries ≡ remotes_of l.script.schemas (zones_at l o.lane o.step)
  pub stood : AreStood l.script.schemas (versions_at l journal o.place) o.queries o.stood
  pub fetches : AreFetches journal (after l journal) o.lane (versions_at l journal o.place) met (started_behind journal o.lane o.place) o.queries o.fetches
  pub joins : (work_of (after l journal) o.lane).joins ≡ waits_of (versions_at l journal o.place) o.queries o.fetches
  pub over : o.over ≤ length o.started
  pub own : OwnIs (after l journal) (versions_at l journal o.place) o.queries (work_of (after l journal) o.lane).own (drop o.over o.started) o.current
  pub to_come : AllByRecursion (IsToCome l.script.schemas (after l journal) (versions_at l journal o.place)) (drop o.over o.started)
  pub current : IsCurrentOn l o.lane journal o.current
  pub last : (work_of (after l journal) o.lane).last ≡ o.step
  pub unended : (work_of (after l journal) o.lane).ended ≡ false

-- all of the batch but how far it is stays
pub record IsSameBatch {L : Type 0} (old new : Open L) : Type 0 where
  pub lane : new.lane ≡ old.lane
  pub step : new.step ≡ old.step
  pub place : new.place ≡ old.place

-- and the flight that is brought stands where the journal is
pub record IsBatch {L : Type 0} (l : LoadedFiles) (journal : List Entry) (o : Open L) : Type 0 where
  pub held : IsOpen l journal o
  pub seen : IsSeen journal o.current
