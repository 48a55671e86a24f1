-- What the lanes of the tests' script ask.
use Rattle.std.specs.Prelude.{ℕ, List, [], ◌∷◌, Option, Some, None}
use Rattle.dq_base.specs.Dims.{Dimension, plain}
use Rattle.dq_base.specs.declared.query.Measure.{Measure}
use Rattle.dq_base.specs.declared.query.Measure.TheVariants.{Rows, Sum}
use Rattle.dq_base.specs.declared.query.Query.{Query}
use Rattle.dq_base.specs.declared.script.How.TheVariants.{Replace, Append}
use Rattle.dq_base.specs.declared.script.Step.TheVariants as step
use Rattle.dq_base.specs.declared.script.Step.{Step}

-- a measure by these columns of the one extract, and how many rows of it at most
abbrev pub asked : List Dimension → Measure → Option ℕ → Query
asked dims measure top = record { source = 0; filters = []; dims = dims; measures = measure ∷ []; order = []; top = top }

-- how many rows each region has, each year, and both together
abbrev pub by_region : Query
by_region = asked (plain 0 ∷ []) Rows None

abbrev pub by_year : Query
by_year = asked (plain 1 ∷ []) Rows None

abbrev pub by_both : Query
by_both = asked (plain 0 ∷ plain 1 ∷ []) Rows None

-- another measure, and a few rows of the first
abbrev pub sum_by_region : Query
sum_by_region = asked (plain 0 ∷ []) (Sum 2) None

abbrev pub top_regions : Query
top_regions = asked (plain 0 ∷ []) Rows (Some 3)

-- a lane that refreshes the extract twice, and asks behind each
abbrev pub refreshing : List Step
refreshing = step.Publish 0 Replace [] ∷ step.Batch (by_both ∷ []) ∷ step.Publish 0 Append [] ∷ step.Batch (by_year ∷ []) ∷ []

-- a lane that asks by year, one that asks twice for the top, and one of three zones
abbrev pub asked_lanes : List (List Step)
asked_lanes =
    refreshing ∷ (step.Batch (by_year ∷ []) ∷ []) ∷ (step.Batch (top_regions ∷ []) ∷ step.Batch (top_regions ∷ []) ∷ [])
    ∷ (step.Batch (by_region ∷ by_year ∷ sum_by_region ∷ []) ∷ []) ∷ []
