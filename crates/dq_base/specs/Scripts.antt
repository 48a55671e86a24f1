-- What a script says, and how large it may be.
use Rattle.std.specs.Prelude.{◌≡◌, ℕ, ◌+◌, ◌-◌, ◌≤◌, Bool, true, ◌&&◌, nat_lt, nat_le, nat_eq, List, [], ◌∷◌, length, sum_by, slice_get, Option, Some, None, option_and_then, if◌then◌else◌}
use Rattle.std.specs.List.{list_all, flat_map}
use Rattle.dq_base.specs.Blends.{are_apart, links_fit}
use Rattle.dq_base.specs.Headings.{Heading}
use Rattle.dq_base.specs.Limits.{most_extracts, most_columns, most_lanes, most_steps, most_zones, most_all_zones, most_turns, most_faults, most_entries, most_bound_cells}
pub use Rattle.dq_base.specs.Numbered.{numbered}
use Rattle.dq_base.specs.Sessions.{session_fits}
use Rattle.dq_base.specs.declared.bound.Bound.{Bound}
use Rattle.dq_base.specs.declared.bound.Bound.TheVariants.{Entries, Cells}
use Rattle.dq_base.specs.declared.query.Query.{Query}
use Rattle.dq_base.specs.declared.script.Blend.{Blend}
use Rattle.dq_base.specs.declared.script.Step.{Step}
use Rattle.dq_base.specs.declared.script.Step.TheVariants.{Publish, Batch}
use Rattle.dq_base.specs.declared.script.Fails.{Fails}
use Rattle.dq_base.specs.declared.script.Script.{Script}

-- the step of a lane, both numbered from 1
abbrev pub step_of : List (List Step) → ℕ → ℕ → Option Step
step_of lanes lane step = option_and_then (λ steps. numbered steps step) (numbered lanes lane)

-- the source that a step publishes, if it does
abbrev pub source_in : Step → List ℕ
source_in (Publish source how file) = source ∷ []
source_in (Batch zones) = []

-- the sources of the publish steps, in order of lanes and steps
abbrev pub sources_of : List (List Step) → List ℕ
sources_of lanes = flat_map (λ steps. flat_map source_in steps) lanes

abbrev pub zones_in : Step → ℕ
zones_in (Publish source how file) = 0
zones_in (Batch zones) = length zones

abbrev pub zones_count : List (List Step) → ℕ
zones_count lanes = sum_by (λ steps. sum_by zones_in steps) lanes

-- a publication of one of so many extracts, or a batch that isn't too large
abbrev pub step_fits : ℕ → Step → Bool
step_fits extracts (Publish source how file) = nat_lt source extracts
step_fits extracts (Batch zones) = nat_le (length zones) most_zones

abbrev pub lane_fits : ℕ → List Step → Bool
lane_fits extracts steps = nat_le (length steps) most_steps && list_all (step_fits extracts) steps

abbrev pub heading_fits : Heading → Bool
heading_fits heading = nat_lt 0 (length heading.names) && nat_le (length heading.names) most_columns

abbrev pub fails_fit : Fails → Bool
fails_fit fails = nat_le (length fails.dials) most_faults && nat_le (length fails.links) most_faults

-- a lane's number, of so many
abbrev pub is_lane : ℕ → ℕ → Bool
is_lane lanes lane = nat_lt 0 lane && nat_le lane lanes

-- a cache holds something, and no more than it may
abbrev pub bound_fits : Bound → Bool
bound_fits (Entries n) = nat_lt 0 n && nat_le n most_entries
bound_fits (Cells n) = nat_lt 0 n && nat_le n most_bound_cells

abbrev pub zones_of : Option Step → List Query
zones_of None = []
zones_of (Some (Publish source how file)) = []
zones_of (Some (Batch zones)) = zones

abbrev pub links_within : Blend → List Query → Bool
links_within b zones = links_fit b.links (numbered zones b.zone) (numbered zones (b.zone + 1))

-- a blend names a zone of a batch that has a next one, and has a link for each dimension of that
abbrev pub blend_fits : List (List Step) → Blend → Bool
blend_fits lanes b = links_within b (zones_of (step_of lanes b.lane b.step))

-- a script within the limits, whose numbers are in range
pub record IsScript (script : Script) : Type 0 where
  pub named : length script.names ≡ length script.schemas
  pub extracts : length script.schemas ≤ most_extracts
  pub columns : list_all heading_fits script.schemas ≡ true
  pub lanes : length script.lanes ≤ most_lanes
  pub steps : list_all (lane_fits (length script.schemas)) script.lanes ≡ true
  pub zones : zones_count script.lanes ≤ most_all_zones
  pub turns : length script.schedule ≤ most_turns
  pub turns_of_lanes : list_all (is_lane (length script.lanes)) script.schedule ≡ true
  pub literal : bound_fits script.literal ≡ true
  pub clever : bound_fits script.clever ≡ true
  pub fails : length script.fails ≡ length script.lanes
  pub faults : list_all fails_fit script.fails ≡ true
  pub sessions : list_all (session_fits (length script.lanes) (length script.schemas)) script.sessions ≡ true
  pub blends : list_all (blend_fits script.lanes) script.blends ≡ true
  pub apart : are_apart script.blends ≡ true
