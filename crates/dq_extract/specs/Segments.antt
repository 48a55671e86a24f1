-- Segments, shared and one behind the other.
use Rattle.std.specs.Prelude.{◌≡◌, ◌<◌, List, length, All}
use Rattle.std.specs.List.{flat_map}
use Rattle.dq_base.specs.Headings.{Heading}
use Rattle.dq_base.specs.Versions.{Version, IsVersion}
use Rattle.dq_base.specs.declared.value.Value.{Value}

-- a version with a column at least
pub record IsSegment (v : Version) : Type 0 where
  pub version : IsVersion v
  pub columns : 0 < length v.heading.names

-- the rows of these versions, one version behind the other
abbrev pub rows_in : List Version → List (List Value)
rows_in versions = flat_map (λ v. v.rows) versions

-- each of these versions is under this heading
abbrev pub AreUnder : Heading → List Version → Type 0
AreUnder heading versions = All (λ v. v.heading ≡ heading) versions

-- what segments under one heading are together
pub record IsExtract (heading : Heading) (versions : List Version) : Type 0 where
  pub under : AreUnder heading versions
  pub version : IsVersion (record { heading = heading; rows = rows_in versions })
