-- Worked examples of legal journals, each by computing.
use Rattle.std.proofs.Common.{◌≡◌, ℕ, ℤ, pos, Bool, true, false, List, [], ◌∷◌, ◌++◌, Some, None, refl}
use Rattle.dq_base.specs.Dims.{plain}
use Rattle.dq_base.specs.Headings.{Heading}
use Rattle.dq_base.specs.Versions.{Version}
use Rattle.dq_base.specs.declared.bound.Bound.TheVariants as bound
use Rattle.dq_base.specs.declared.kept.Kept.TheVariants.{Kept, Topped, Stale}
use Rattle.dq_base.specs.declared.query.Measure.{Measure}
use Rattle.dq_base.specs.declared.query.Measure.TheVariants.{Rows, Sum, Max}
use Rattle.dq_base.specs.declared.query.Query.{Query}
use Rattle.dq_base.specs.declared.schema.Sort.TheVariants as sort
use Rattle.dq_base.specs.declared.script.How.TheVariants.{Replace}
use Rattle.dq_base.specs.declared.script.Step.{Step}
use Rattle.dq_base.specs.declared.script.Step.TheVariants as step
use Rattle.dq_base.specs.declared.value.Value.{Value}
use Rattle.dq_base.specs.declared.value.Value.TheVariants as value
use Rattle.dq_extract.specs.Loads.{LoadedFiles}
use Rattle.dq_journal.specs.declared.entry.Cause.TheVariants as cause
use Rattle.dq_journal.specs.declared.entry.Met.TheVariants as met
use Rattle.dq_journal.specs.declared.entry.Entry.{Entry}
use Rattle.dq_journal.specs.declared.entry.Entry.TheVariants.{Publish, Admit, Lease, Give, Lose, Land, Fall, Take, End}
use Rattle.dq_machine.specs.Machine.{legal}

-- an extract of regions, years and amounts

abbrev heading : Heading
heading = record { names = [] ∷ [] ∷ [] ∷ []; sorts = sort.Word ∷ sort.Whole ∷ sort.Whole ∷ [] }

abbrev east : Value
east = value.Word (69 ∷ [])

abbrev west : Value
west = value.Word (87 ∷ [])

abbrev whole : ℕ → Value
whole n = value.Int (pos n)

abbrev sales : Version
sales = record {
  heading = heading;
  rows =
      (east ∷ whole 2020 ∷ whole 10 ∷ []) ∷ (east ∷ whole 2021 ∷ whole 5 ∷ []) ∷ (west ∷ whole 2020 ∷ whole 7 ∷ [])
      ∷ (west ∷ whole 2021 ∷ value.Null ∷ []) ∷ (value.Null ∷ whole 2021 ∷ whole 4 ∷ []) ∷ [];
}

-- what is loaded for these lanes, of which one step publishes
abbrev loaded : List (List Step) → LoadedFiles
loaded lanes = record {
  script = record {
    names = [] ∷ [];
    schemas = heading ∷ [];
    literal = bound.Entries 64;
    clever = bound.Entries 64;
    lanes = lanes;
    schedule = [];
    fails = [];
    sessions = [];
    blends = [];
  };
  segments = sales ∷ [];
}

abbrev publish : Step
publish = step.Publish 0 Replace []

abbrev by_region : List Measure → Query
by_region measures = record { source = 0; filters = []; dims = plain 0 ∷ []; measures = measures; order = []; top = None }

abbrev one_row : Query
one_row = record (by_region (Rows ∷ [])) { top = Some 1 }

abbrev by_region_and_year : Query
by_region_and_year = record { source = 0; filters = []; dims = plain 0 ∷ plain 1 ∷ []; measures = Rows ∷ []; order = []; top = None }

-- one statement

abbrev one_lane : LoadedFiles
one_lane = loaded ((publish ∷ step.Batch (by_region (Sum 2 ∷ Rows ∷ []) ∷ []) ∷ []) ∷ [])

abbrev one_statement : Bool → ℕ → List Entry
one_statement fresh cells =
    Publish 1 1 ∷ Admit 1 2 (met.Group 1 ∷ []) ∷ Lease 1 1 1 fresh ∷ Give 1 1 1 true 1 2 ∷ Land 1 1 cells Kept Kept ∷ End 1 ∷ []

a_statement_is_legal : legal one_lane (one_statement true 9) ≡ true
unfolding legal
a_statement_is_legal = refl

-- no link is idle at first
idle_is_illegal : legal one_lane (one_statement false 9) ≡ false
unfolding legal
idle_is_illegal = refl

other_cells_are_illegal : legal one_lane (one_statement true 8) ≡ false
unfolding legal
other_cells_are_illegal = refl

-- an answer with a top is found by its text alone

abbrev topped_lanes : LoadedFiles
topped_lanes = loaded ((publish ∷ step.Batch (one_row ∷ []) ∷ step.Batch (one_row ∷ []) ∷ step.Batch (by_region (Rows ∷ []) ∷ []) ∷ step.Batch (one_row ∷ []) ∷ []) ∷ [])

topped_is_literal : legal topped_lanes
    (Publish 1 1 ∷ Admit 1 2 (met.Group 1 ∷ []) ∷ Lease 1 1 1 true ∷ Give 1 1 1 true 1 2 ∷ Land 1 1 2 Topped Kept
    ∷ Admit 1 3 (met.Literal 1 ∷ []) ∷ Admit 1 4 (met.Group 2 ∷ []) ∷ Lease 1 2 1 false ∷ Give 1 2 1 true 2 3 ∷ Land 1 2 6 Kept Kept
    ∷ Admit 1 5 (met.Hit 2 ∷ []) ∷ End 1 ∷ []) ≡ true
unfolding legal
topped_is_literal = refl

-- similar statements are one, and the second load is all hits

abbrev similar : Step
similar = step.Batch (by_region (Sum 2 ∷ []) ∷ by_region (Max 2 ∷ []) ∷ [])

similar_share : legal (loaded ((publish ∷ similar ∷ similar ∷ []) ∷ []))
    (Publish 1 1 ∷ Admit 1 2 (met.Group 1 ∷ met.Group 1 ∷ []) ∷ Lease 1 1 1 true ∷ Give 1 1 1 true 1 2 ∷ Land 1 1 9 Kept Kept
    ∷ Admit 1 3 (met.Hit 1 ∷ met.Hit 1 ∷ []) ∷ End 1 ∷ []) ≡ true
unfolding legal
similar_share = refl

-- a session joins another's result in flight

abbrev joining : LoadedFiles
joining = loaded ((publish ∷ step.Batch (by_region_and_year ∷ []) ∷ []) ∷ (step.Batch (by_region (Rows ∷ []) ∷ []) ∷ []) ∷ [])

joined_lands : legal joining
    (Publish 1 1 ∷ Admit 1 2 (met.Group 1 ∷ []) ∷ Admit 2 1 (met.Join 1 ∷ []) ∷ Lease 1 1 1 true ∷ Give 1 1 1 true 1 2
    ∷ Land 1 1 15 Kept Kept ∷ Take 2 1 None ∷ End 1 ∷ End 2 ∷ []) ≡ true
unfolding legal
joined_lands = refl

-- two losses are a fall, and who joined starts anew
joined_falls : legal joining
    (Publish 1 1 ∷ Admit 1 2 (met.Group 1 ∷ []) ∷ Admit 2 1 (met.Join 1 ∷ []) ∷ Lease 1 1 1 true ∷ Lose 1 1 1 true true 1 2
    ∷ Lease 1 1 2 true ∷ Lose 1 1 2 true true 1 2 ∷ Fall 1 1 cause.BackEnd ∷ Take 2 1 (Some 2) ∷ End 1
    ∷ Lease 2 2 3 true ∷ Give 2 2 3 true 1 2 ∷ Land 2 2 6 Kept Kept ∷ End 2 ∷ []) ≡ true
unfolding legal
joined_falls = refl

-- a second loss isn't retried
third_lease_is_illegal : legal joining
    (Publish 1 1 ∷ Admit 1 2 (met.Group 1 ∷ []) ∷ Lease 1 1 1 true ∷ Lose 1 1 1 true true 1 2
    ∷ Lease 1 1 2 true ∷ Lose 1 1 2 true true 1 2 ∷ Lease 1 1 3 true ∷ []) ≡ false
unfolding legal
third_lease_is_illegal = refl

-- who waits has no turn
waiting_is_illegal : legal joining (Publish 1 1 ∷ Admit 1 2 (met.Group 1 ∷ []) ∷ Admit 2 1 (met.Join 1 ∷ []) ∷ Take 2 1 None ∷ []) ≡ false
unfolding legal
waiting_is_illegal = refl

-- a publication makes a result in flight stale
published_is_stale : legal (loaded ((publish ∷ step.Batch (by_region (Rows ∷ []) ∷ []) ∷ []) ∷ (publish ∷ []) ∷ []))
    (Publish 1 1 ∷ Admit 1 2 (met.Group 1 ∷ []) ∷ Publish 2 1 ∷ Lease 1 1 1 true ∷ Give 1 1 1 true 1 2 ∷ Land 1 1 6 Stale Stale
    ∷ End 1 ∷ End 2 ∷ []) ≡ true
unfolding legal
published_is_stale = refl
