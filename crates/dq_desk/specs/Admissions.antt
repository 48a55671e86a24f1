-- What an admission asks, and what it hands out.
use Rattle.std.specs.Prelude.{◌≡◌, ℕ, ◌+◌, Bool, true, ◌&&◌, List, [], ◌∷◌, map, slice_get, Option, Some, None, IfSome}
use Rattle.std.specs.Arc.{arc_value}
use Rattle.dq_base.specs.Answers.{answer}
use Rattle.dq_base.specs.Batches.{Group, roles}
use Rattle.dq_base.specs.Covering.{covers}
use Rattle.dq_base.specs.Headings.{Heading}
use Rattle.dq_base.specs.Scripts.{step_of, zones_of}
use Rattle.dq_base.specs.Versions.{Version}
use Rattle.dq_base.specs.declared.cell.Cell.{Cell}
use Rattle.dq_base.specs.declared.query.Query.{Query}
use Rattle.dq_cache.specs.declared.entry.Found.{Found}
use Rattle.dq_extract.specs.Loads.{LoadedFiles}
use Rattle.dq_graph.specs.declared.prepared.Prepared.{Prepared}
use Rattle.dq_journal.specs.declared.entry.Met.{Met}
use Rattle.dq_journal.specs.declared.entry.Met.TheVariants as met
use Rattle.dq_machine.specs.Admitting.{is_batch}
use Rattle.dq_machine.specs.Machine.{may_begin}
use Rattle.dq_machine.specs.Preparing.{canons_of, is_valid, remotes_of}
use Rattle.dq_machine.specs.Publishing.{rows_in, stamp_in}
use Rattle.dq_machine.specs.State.{Publication, State, work_of}
use Rattle.dq_text.specs.Statements.{body}
use Rattle.dq_desk.specs.Events.{is_there}

-- the lane is free, and the step is a later one of it and a batch
abbrev pub may_admit_now : LoadedFiles → State → ℕ → ℕ → Bool
may_admit_now l s lane number = is_there s lane && (may_begin (work_of s lane) number && is_batch (step_of l.script.lanes lane number))

-- the remote queries of that step's batch
abbrev pub remotes_at : LoadedFiles → ℕ → ℕ → List Query
remotes_at l lane number = remotes_of l.script.schemas (zones_of (step_of l.script.lanes lane number))

-- this is the preparation of a batch of these zones
pub record IsPrepared (schemas : List Heading) (zones : List Query) (p : Prepared) : Type 0 where
  pub canons : p.canons ≡ canons_of schemas zones
  pub roles : p.roles ≡ roles (canons_of schemas zones)
  pub bodies : p.bodies ≡ map body (remotes_of schemas zones)

-- a stamp, and the version that has it
pub record StoodOf : Type 0 where
  pub stamp : ℕ
  pub extract : Version

-- this stands of the source
pub record IsStood (schemas : List Heading) (versions : List Publication) (source : ℕ) (s : StoodOf) : Type 0 where
  pub stamp : s.stamp ≡ stamp_in versions source
  pub heading : slice_get schemas source ≡ Some s.extract.heading
  pub rows : s.extract.rows ≡ rows_in versions source

-- one for each query, in order, of the query's source
abbrev pub AreStood : List Heading → List Publication → List Query → List StoodOf → Type 0
AreStood schemas versions [] [] = Unit {0}
AreStood schemas versions [] (s ∷ stood) = ⊥
AreStood schemas versions (q ∷ queries) [] = ⊥
AreStood schemas versions (q ∷ queries) (s ∷ stood) = IsStood schemas versions q.source s × AreStood schemas versions queries stood

-- a valid key that covers the query, and its answer over what stands of the query's source
pub record IsShare (schemas : List Heading) (versions : List Publication) (q key : Query) (rows : List (List Cell)) : Type 0 where
  pub valid : is_valid schemas key ≡ true
  pub covering : covers key q ≡ true
  pub table : rows ≡ answer key (rows_in versions q.source)

abbrev pub IsFound : List Heading → List Publication → Query → ℕ → Found → Type 0
IsFound schemas versions q flight found =
    (found.flight ≡ flight) × IfSome found.share (λ both. IsShare schemas versions q (arc_value both.0) (arc_value both.1))

-- what a query is handed out of a cache, by what it met: an answer where it met one, and nothing else
abbrev pub IsHeld : List Heading → List Publication → Query → Met → Option Found → Type 0
IsHeld schemas versions q (met.Hit flight) None = ⊥
IsHeld schemas versions q (met.Hit flight) (Some found) = IsFound schemas versions q flight found
IsHeld schemas versions q (met.Literal flight) None = ⊥
IsHeld schemas versions q (met.Literal flight) (Some found) = IsFound schemas versions q flight found
IsHeld schemas versions q (met.Join flight) None = Unit {0}
IsHeld schemas versions q (met.Join flight) (Some found) = ⊥
IsHeld schemas versions q (met.Group flight) None = Unit {0}
IsHeld schemas versions q (met.Group flight) (Some found) = ⊥

abbrev pub AreHeld : List Heading → List Publication → List Query → List Met → List (Option Found) → Type 0
AreHeld schemas versions [] [] [] = Unit {0}
AreHeld schemas versions [] [] (h ∷ held) = ⊥
AreHeld schemas versions [] (m ∷ meets) held = ⊥
AreHeld schemas versions (q ∷ queries) [] held = ⊥
AreHeld schemas versions (q ∷ queries) (m ∷ meets) [] = ⊥
AreHeld schemas versions (q ∷ queries) (m ∷ meets) (h ∷ held) = IsHeld schemas versions q m h × AreHeld schemas versions queries meets held

-- a flight that was started: its key, what stands of the key's source, and the places of its group's misses
pub record StartedOf : Type 0 where
  pub flight : ℕ
  pub key : Query
  pub stood : StoodOf
  pub members : List ℕ

pub record IsStarted (schemas : List Heading) (versions : List Publication) (number : ℕ) (g : Group) (s : StartedOf) : Type 0 where
  pub flight : s.flight ≡ number
  pub key : s.key ≡ g.key
  pub stood : IsStood schemas versions g.key.source s.stood
  pub members : s.members ≡ g.members

-- one for each group, from this number on
abbrev pub AreStarted : List Heading → List Publication → ℕ → List Group → List StartedOf → Type 0
AreStarted schemas versions number [] [] = Unit {0}
AreStarted schemas versions number [] (s ∷ started) = ⊥
AreStarted schemas versions number (g ∷ groups) [] = ⊥
AreStarted schemas versions number (g ∷ groups) (s ∷ started) =
    IsStarted schemas versions number g s × AreStarted schemas versions (number + 1) groups started
