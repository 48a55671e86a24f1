-- What was loaded for a script.
use Rattle.std.specs.Prelude.{◌≡◌, ⊤, ℕ, ◌+◌, ◌-◌, ◌≤◌, List, [], ◌∷◌, length, take, sum_by, slice_get, All, Option, Some, None, unwrap_or}
use Rattle.std.specs.List.{flat_map}
use Rattle.dq_base.specs.Headings.{Heading}
use Rattle.dq_base.specs.Limits.{cell_room}
use Rattle.dq_base.specs.Scripts.{IsScript, numbered, step_of, source_in, sources_of}
use Rattle.dq_base.specs.Versions.{Version, IsVersion, cells_of}
use Rattle.dq_base.specs.declared.script.Script.{Script}
use Rattle.dq_base.specs.declared.script.Step.{Step}
use Rattle.dq_base.specs.declared.script.Step.TheVariants.{Publish, Batch}

-- a script, and a segment for each of its publish steps, in order of lanes and steps
pub record LoadedFiles : Type 0 where
  pub script : Script
  pub segments : List Version

-- as many segments as sources, each under the heading at its source
abbrev pub AreOf : List Heading → List ℕ → List Version → Type 0
AreOf headings [] [] = ⊤
AreOf headings [] (v ∷ segments) = ⊥
AreOf headings (source ∷ sources) [] = ⊥
AreOf headings (source ∷ sources) (v ∷ segments) = (slice_get headings source ≡ Some v.heading) × AreOf headings sources segments

pub record IsLoaded (l : LoadedFiles) : Type 0 where
  pub script : IsScript l.script
  pub fit : AreOf l.script.schemas (sources_of l.script.lanes) l.segments
  pub cells : sum_by cells_of l.segments ≤ cell_room
  pub versions : All IsVersion l.segments

-- how many publish steps stand before a step, in order of lanes and steps
abbrev pub before_step : List (List Step) → ℕ → ℕ → ℕ
before_step lanes lane step =
    length (sources_of (take (lane - 1) lanes)) + length (flat_map source_in (take (step - 1) (unwrap_or (numbered lanes lane) [])))

-- each item mapped beside the number of sources before it, of which so many stand before the first
abbrev pub map_behind : {X Y : Type 0} → (X → List ℕ) → (ℕ → X → Y) → ℕ → List X → List Y
map_behind sources f before [] = []
map_behind sources f before (x ∷ xs) = f before x ∷ map_behind sources f (before + length (sources x)) xs

-- for each of these steps, how many publish steps stand before it
abbrev pub places_from : ℕ → List Step → List ℕ
places_from before steps = map_behind source_in (λ place step. place) before steps

-- for each step of these lanes, how many publish steps stand before it
abbrev pub places_in : List (List Step) → List (List ℕ)
places_in lanes = map_behind (λ steps. flat_map source_in steps) places_from 0 lanes

-- what was loaded, with the places of all steps
pub record IsIndexed (l : LoadedFiles) (places : List (List ℕ)) : Type 0 where
  pub loaded : IsLoaded l
  pub index : places ≡ places_in l.script.lanes

-- the segment at that place, for a publish step alone
abbrev pub published_at : List Version → ℕ → Option Step → Option Version
published_at segments place None = None
published_at segments place (Some (Publish source how file)) = slice_get segments place
published_at segments place (Some (Batch zones)) = None

-- the segment of a publish step; lanes and steps count from 1
abbrev pub segment_of : LoadedFiles → ℕ → ℕ → Option Version
segment_of l lane step = published_at l.segments (before_step l.script.lanes lane step) (step_of l.script.lanes lane step)

-- a publish step has a segment, under the heading at its source; there is none for a batch, or where there is no step
abbrev pub FitsStep : List Heading → Option Step → Option Version → Type 0
FitsStep headings None found = found ≡ None
FitsStep headings (Some (Publish source how file)) None = ⊥
FitsStep headings (Some (Publish source how file)) (Some v) = slice_get headings source ≡ Some v.heading
FitsStep headings (Some (Batch zones)) found = found ≡ None
