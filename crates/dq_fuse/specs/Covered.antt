-- Groups whose keys cover their members.
use Rattle.std.specs.Prelude.{ℕ, Bool, false, List, slice_get}
use Rattle.std.specs.List.{list_all}
use Rattle.std.specs.Option.{option_map_or}
use Rattle.dq_base.specs.Batches.{Group}
use Rattle.dq_base.specs.Covering.{covers}
use Rattle.dq_base.specs.declared.query.Query.{Query}

-- there is a query at the place, and it is covered
abbrev pub covered_at : List Query → Query → ℕ → Bool
covered_at queries key place = option_map_or (covers key) (slice_get queries place) false

abbrev pub covers_members : List Query → Group → Bool
covers_members queries g = list_all (covered_at queries g.key) g.members
