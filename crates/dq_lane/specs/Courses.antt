-- What work and turns make of a lane's course.
use Rattle.std.specs.Prelude.{◌≡◌, ⊤, ℕ, ◌+◌, ◌-◌, ◌<◌, ◌^◌, true, false, MatchBool, List, length, slice_get, slice_set, Option, Some, None}
use Rattle.dq_base.specs.declared.script.Fails.{Fails}
use Rattle.dq_batch.specs.Turns.{IsTurned}
use Rattle.dq_batch.specs.Views.{BatchOf}
use Rattle.dq_batch.specs.declared.open.Turned.{Turned}
use Rattle.dq_bring.specs.Dials.{IsPlanOf}
use Rattle.dq_extract.specs.Loads.{LoadedFiles}
use Rattle.dq_fates.specs.GoingOn.{GoesOn}
use Rattle.dq_journal.specs.declared.entry.Entry.{Entry}
use Rattle.dq_journal.specs.declared.result.StepResult.{StepResult}
use Rattle.dq_journal.specs.declared.result.StepResult.TheVariants.{Published}
use Rattle.dq_machine.specs.Machine.{after, legal}
use Rattle.dq_machine.specs.State.{is_free, work_of}
use Rattle.dq_lane.specs.Closing.{CanCloseIn, HasClosedAs}
use Rattle.dq_lane.specs.Progress.{IsPreparedFor}
use Rattle.dq_lane.specs.declared.course.Course.{Course}
use Rattle.dq_lane.specs.declared.event.Event.{Event}
use Rattle.dq_lane.specs.declared.event.Event.TheVariants as event
use Rattle.dq_lane.specs.declared.progress.Progress.{Progress}
use Rattle.dq_lane.specs.declared.progress.Progress.TheVariants as progress

-- the result of the step that had its turn last is that of a refused batch
abbrev pub CanEndWith : ℕ → List StepResult → BatchOf → Type 0
CanEndWith taken results b = (0 < taken) × (r : StepResult) × (slice_get results (taken - 1) ≡ Some r) × CanCloseIn b r

-- a batch under way may have its next turn
pub record CanTurn (l desk : LoadedFiles) (journal : List Entry) (b : BatchOf) : Type 0 where
  pub worked : b.pending ≡ false
  pub more : b.over ≡ false
  pub loaded : l ≡ b.loaded
  pub same : desk ≡ b.loaded
  pub goes_on : GoesOn b.lane b.seen journal

-- where it stands behind it
pub record StandsAt (b : BatchOf) : Type 0 where
  pub legal : legal b.loaded b.seen ≡ true
  pub last : (work_of (after b.loaded b.seen) b.lane).last ≡ b.step
  pub unended : (work_of (after b.loaded b.seen) b.lane).ended ≡ false

module _ {L : Type 0} where
  -- an event

  abbrev pub settled : Course L → Event L → Course L
  settled c event.Refused = record c { taken = c.taken + 1; progress = progress.Fresh }
  settled c (event.Published place) = record c { taken = c.taken + 1; results = slice_set c.results c.taken (Published place); progress = progress.Fresh }
  settled c (event.Admitted b) = record c { taken = c.taken + 1; progress = progress.Open b }
  settled c event.Ended = record c { done = true; progress = progress.Ready }

  abbrev pub CanSettle : Course L → Event L → Type 0
  CanSettle c event.Refused = c.taken + 1 < 2 ^ 32
  CanSettle c (event.Published place) = (c.taken + 1 < 2 ^ 32) × (c.taken < length c.results)
  CanSettle c (event.Admitted b) = c.taken + 1 < 2 ^ 32
  CanSettle c event.Ended = ⊤

  -- the work of the batch under way

  abbrev pub CanWorkIn : Progress L → Option Fails → Type 0
  CanWorkIn progress.Fresh plan = ⊤
  CanWorkIn progress.Ready plan = ⊤
  CanWorkIn (progress.Prepared p) plan = ⊤
  CanWorkIn (progress.Open b) plan = IsPlanOf b.loaded b.lane plan

  -- it was worked on, and nothing else changed
  abbrev pub HasFlown : BatchOf → Course L → Course L → Type 0
  HasFlown b c d = (x : BatchOf) × (d ≡ record c { progress = progress.Open x }) × (x ≡ record b { pending = false; untold = x.untold })

  abbrev pub HasWorkedIn : Progress L → Course L → Course L → Type 0
  HasWorkedIn progress.Fresh c d = d ≡ c
  HasWorkedIn progress.Ready c d = d ≡ c
  HasWorkedIn (progress.Prepared p) c d = d ≡ c
  HasWorkedIn (progress.Open b) c d = HasFlown b c d

  abbrev pub HasWorked : Course L → Course L → Type 0
  HasWorked c d = HasWorkedIn c.progress c d

  -- its turn

  abbrev pub CanGoOn : LoadedFiles → LoadedFiles → List Entry → Progress L → Type 0
  CanGoOn l desk journal progress.Fresh = ⊤
  CanGoOn l desk journal progress.Ready = ⊤
  CanGoOn l desk journal (progress.Prepared p) = ⊤
  CanGoOn l desk journal (progress.Open b) = CanTurn l desk journal b

  abbrev pub IsShut : Progress L → Type 0
  IsShut progress.Fresh = Unit {0}
  IsShut progress.Ready = Unit {0}
  IsShut (progress.Prepared p) = Unit {0}
  IsShut (progress.Open b) = ⊥

  pub record HasGoneOn (c : Course L) (old : List Entry) (d : Course L) (new : List Entry) (t : Turned) : Type 0 where
    pub before : BatchOf
    pub behind : BatchOf
    pub was : c.progress ≡ progress.Open before
    pub is : d ≡ record c { progress = progress.Open behind }
    pub turned : IsTurned before behind old new t
    pub stands : StandsAt behind

  pub record HasNoBatch (c : Course L) (old : List Entry) (d : Course L) (new : List Entry) : Type 0 where
    pub shut : IsShut c.progress
    pub is : d ≡ c
    pub journal : new ≡ old

  abbrev pub GoesOnAs : Course L → List Entry → Course L → List Entry → Option Turned → Type 0
  GoesOnAs c old d new None = HasNoBatch c old d new
  GoesOnAs c old d new (Some t) = HasGoneOn c old d new t

  -- its end

  abbrev pub CanEndIn : ℕ → List StepResult → Progress L → Type 0
  CanEndIn taken results progress.Fresh = ⊤
  CanEndIn taken results progress.Ready = ⊤
  CanEndIn taken results (progress.Prepared p) = ⊤
  CanEndIn taken results (progress.Open b) = CanEndWith taken results b

  abbrev pub CanEnd : Course L → Type 0
  CanEnd c = CanEndIn c.taken c.results c.progress

  -- the batch is closed, nothing is under way, and the lane is free
  pub record HasAnsweredIn (b : BatchOf) (taken : ℕ) (old new : List StepResult) (p : Progress L) : Type 0 where
    pub result : StepResult
    pub closed : HasClosedAs b result
    pub is : new ≡ slice_set old (taken - 1) result
    pub shut : p ≡ progress.Fresh
    pub free : is_free (work_of (after b.loaded b.seen) b.lane) ≡ true

  abbrev pub AnswersIn : ℕ → List StepResult → List StepResult → BatchOf → Progress L → Type 0
  AnswersIn taken old new b p = MatchBool b.over (HasAnsweredIn b taken old new p) ((new ≡ old) × (p ≡ progress.Open b))

  -- the batch is closed, and the lane is free
  pub record HasAnswered (b : BatchOf) (c d : Course L) : Type 0 where
    pub result : StepResult
    pub closed : HasClosedAs b result
    pub is : d ≡ record c { results = slice_set c.results (c.taken - 1) result; progress = progress.Fresh }
    pub free : is_free (work_of (after b.loaded b.seen) b.lane) ≡ true

  abbrev pub HasEndedIn : Progress L → Course L → Course L → Type 0
  HasEndedIn progress.Fresh c d = d ≡ c
  HasEndedIn progress.Ready c d = d ≡ c
  HasEndedIn (progress.Prepared p) c d = d ≡ c
  HasEndedIn (progress.Open b) c d = MatchBool b.over (HasAnswered b c d) (d ≡ c)

  abbrev pub HasEnded : Course L → Course L → Type 0
  HasEnded c d = HasEndedIn c.progress c d

  -- the preparation of the next step

  abbrev pub HasPreparedBy : LoadedFiles → ℕ → Progress L → Course L → Course L → Type 0
  HasPreparedBy l lane progress.Fresh c d = (p : Progress L) × IsPreparedFor l lane (c.taken + 1) p × (d ≡ record c { progress = p })
  HasPreparedBy l lane progress.Ready c d = d ≡ c
  HasPreparedBy l lane (progress.Prepared p) c d = d ≡ c
  HasPreparedBy l lane (progress.Open b) c d = d ≡ c

  abbrev pub HasPrepared : LoadedFiles → ℕ → Course L → Course L → Type 0
  HasPrepared l lane c d = HasPreparedBy l lane c.progress c d
