-- How the zones of a batch are answered from what was brought.
use Rattle.std.specs.Prelude.{◌≡◌, ℕ, zero, suc, ◌<◌, ◌≤◌, true, List, [], ◌∷◌, length, slice_get, Option, Some, None, unwrap_or, if◌then◌else◌}
use Rattle.std.specs.Arc.{arc_value}
use Rattle.dq_base.specs.Answers.{answer}
use Rattle.dq_base.specs.Batches as batches
use Rattle.dq_base.specs.Covering.{covers}
use Rattle.dq_base.specs.Headings.{Heading}
use Rattle.dq_base.specs.Validity.{invalid_by}
use Rattle.dq_base.specs.declared.canon.Role.{Role}
use Rattle.dq_base.specs.declared.canon.Role.TheVariants.{Remote, Local}
use Rattle.dq_base.specs.declared.cell.Cell.{Cell}
use Rattle.dq_base.specs.declared.invalid.Invalid.{Invalid}
use Rattle.dq_base.specs.declared.query.Query.{Query}
use Rattle.dq_graph.specs.Splits.{covered_by}
use Rattle.dq_graph.specs.declared.prepared.Prepared.{Prepared}
use Rattle.dq_journal.specs.Standing.{Rows}
use Rattle.dq_journal.specs.declared.entry.Entry.{Entry}
use Rattle.dq_journal.specs.declared.result.ZoneResult.{ZoneResult}
use Rattle.dq_journal.specs.declared.result.ZoneResult.TheVariants as zone
use Rattle.dq_machine.specs.Owning.{Fate, Answered, Origin, fate, over_zones, spread, valid_origins, valid_places}
use Rattle.dq_machine.specs.Preparing.{canons_of, is_valid, remotes_of}
use Rattle.dq_machine.specs.Right.{IsLed, IsOutcome}
use Rattle.dq_zones.specs.Brought.{AreBrought, IsBrought}
use Rattle.dq_zones.specs.Numbering.{zone_numbers}
use Rattle.dq_zones.specs.declared.fetch.Fetch.{Fetch}
use Rattle.dq_zones.specs.declared.fetch.Fetch.TheVariants.{Waiting, Flying, Brought, BackEnd, Memory}

-- a batch of a journal: the zones, the rows of each source, and the own flights of its remote queries
pub record BatchOf : Type 0 where
  pub schemas : List Heading
  pub zones : List Query
  pub rows : ℕ → Rows
  pub journal : List Entry
  pub owns : List (Option ℕ)

abbrev pub roles_of : BatchOf → List Role
roles_of b = batches.roles (canons_of b.schemas b.zones)

-- it was prepared so, and this was brought for it
pub record IsBatch (b : BatchOf) (p : Prepared) (fetches : List Fetch) : Type 0 where
  pub canons : p.canons ≡ canons_of b.schemas b.zones
  pub roles : p.roles ≡ roles_of b
  pub zones : p.zones ≡ zone_numbers b.schemas b.zones
  pub brought : AreBrought b.rows b.journal b.owns (remotes_of b.schemas b.zones) fetches

-- whose answer each zone has
abbrev pub origins_of : BatchOf → List Origin
origins_of b = over_zones b.schemas b.zones (valid_origins (roles_of b) b.owns (valid_places b.schemas 0 b.zones))

-- how many remote queries stand before a place
abbrev pub rank : List Role → ℕ → ℕ
rank [] place = 0
rank (Remote ∷ rs) zero = 0
rank (Remote ∷ rs) (suc place) = suc (rank rs place)
rank (Local source ∷ rs) zero = 0
rank (Local source ∷ rs) (suc place) = rank rs place

-- the zones are among so many, there is a query and a role for each, and the source of a local one is remote and covers it
pub record FitPrepared (count : ℕ) (p : Prepared) : Type 0 where
  pub canons : length p.canons ≡ length p.zones
  pub roles : length p.roles ≡ length p.zones
  pub among : (place zone : ℕ) → slice_get p.zones place ≡ Some zone → (0 < zone) × (zone ≤ count)
  pub sources : (place source : ℕ) → slice_get p.roles place ≡ Some (Local source) → (slice_get p.roles source ≡ Some Remote) × (covered_by (slice_get p.canons source) (slice_get p.canons place) ≡ true)

-- it is there, and an answer that was brought is that of a query that covers this one
abbrev pub IsFetchFor : Query → Option Fetch → Type 0
IsFetchFor q None = ⊥
IsFetchFor q (Some (Waiting flight)) = Unit {0}
IsFetchFor q (Some (Flying flight)) = Unit {0}
IsFetchFor q (Some (Brought key table)) = covers (arc_value key) q ≡ true
IsFetchFor q (Some BackEnd) = Unit {0}
IsFetchFor q (Some Memory) = Unit {0}

abbrev pub FitFetches : Prepared → List Fetch → Type 0
FitFetches p fetches =
    (place : ℕ) (q : Query) → slice_get p.roles place ≡ Some Remote → slice_get p.canons place ≡ Some q → IsFetchFor q (slice_get fetches (rank p.roles place))

-- a batch of so many zones can be answered
pub record FitZones (count : ℕ) (p : Prepared) (fetches : List Fetch) : Type 0 where
  pub prepared : FitPrepared count p
  pub fetched : FitFetches p fetches

-- the outcomes of single zones

-- it was computed from a table, which may be p's answer
abbrev pub IsRolled : Query → Query → List (List Cell) → ZoneResult → Type 0
IsRolled p q table z = (rows : Rows) → table ≡ answer p rows → IsOutcome None Answered (answer q rows) z

-- it comes of what was brought
abbrev pub IsFetched : Query → Fetch → ZoneResult → Type 0
IsFetched q f z = (x : Fate) (rows : Rows) → IsBrought x rows q f → IsOutcome None x (answer q rows) z

-- it comes of the outcome of p's zone
pub record IsLedFrom (p q : Query) (leader z : ZoneResult) : Type 0 where
  pub right : (x : Fate) (rows : Rows) → IsOutcome None x (answer p rows) leader → IsOutcome None x (answer q rows) z
  pub led : IsLed (Some leader) z

-- the outcomes of a batch, while it is answered

-- those of the valid zones
abbrev pub valid_outcomes : List Heading → List Query → List ZoneResult → List ZoneResult
valid_outcomes schemas [] zs = []
valid_outcomes schemas (q ∷ qs) [] = []
valid_outcomes schemas (q ∷ qs) (z ∷ zs) = if is_valid schemas q then z ∷ valid_outcomes schemas qs zs else valid_outcomes schemas qs zs

-- where there is a reason, it is told
abbrev pub IsTold : Option Invalid → ZoneResult → Type 0
IsTold None z = Unit {0}
IsTold (Some reason) z = z ≡ zone.Invalid reason

-- one for each zone
abbrev pub AreTold : List Heading → List Query → List ZoneResult → Type 0
AreTold schemas [] [] = Unit {0}
AreTold schemas [] (z ∷ zs) = ⊥
AreTold schemas (q ∷ qs) [] = ⊥
AreTold schemas (q ∷ qs) (z ∷ zs) = IsTold (invalid_by schemas q) z × AreTold schemas qs zs

-- the own flight of the valid zone at a place
abbrev pub own_at : BatchOf → ℕ → Option ℕ
own_at b place = unwrap_or (slice_get (spread (roles_of b) b.owns) place) None

-- the outcome at that place of the valid ones
abbrev pub outcome_at : BatchOf → List ZoneResult → ℕ → Option ZoneResult
outcome_at b zs place = slice_get (valid_outcomes b.schemas b.zones zs) place

-- it is right for the flight of this own place
abbrev pub IsRightAt : BatchOf → List ZoneResult → ℕ → ℕ → Type 0
IsRightAt b zs source place =
    (q : Query) (z : ZoneResult) → slice_get (canons_of b.schemas b.zones) place ≡ Some q → outcome_at b zs place ≡ Some z → IsOutcome None (fate b.journal (own_at b source)) (answer q (b.rows q.source)) z

abbrev pub IsLedAt : BatchOf → List ZoneResult → ℕ → ℕ → Type 0
IsLedAt b zs source place = (z : ZoneResult) → outcome_at b zs place ≡ Some z → IsLed (outcome_at b zs source) z

-- the remote zones before a place are answered
pub record AreFetched (b : BatchOf) (n : ℕ) (zs : List ZoneResult) : Type 0 where
  pub told : AreTold b.schemas b.zones zs
  pub remotes : (place : ℕ) → place < n → slice_get (roles_of b) place ≡ Some Remote → IsRightAt b zs place place

-- all remote zones, and the local ones before a place
pub record AreRolled (b : BatchOf) (n : ℕ) (zs : List ZoneResult) : Type 0 where
  pub told : AreTold b.schemas b.zones zs
  pub remotes : (place : ℕ) → slice_get (roles_of b) place ≡ Some Remote → IsRightAt b zs place place
  pub locals : (place source : ℕ) → place < n → slice_get (roles_of b) place ≡ Some (Local source) → IsRightAt b zs source place × IsLedAt b zs source place
