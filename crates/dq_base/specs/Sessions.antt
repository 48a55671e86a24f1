-- What a session's filters leave to be seen.
use Rattle.std.specs.Prelude.{ℕ, ◌+◌, ◌/◌, max, Bool, ◌&&◌, nat_lt, nat_le, nat_eq, List, [], ◌∷◌, ◌++◌, map, length, sum_by, if◌then◌else◌}
use Rattle.std.specs.List.{filter, flat_map}
use Rattle.dq_base.specs.Filters.{passes}
use Rattle.dq_base.specs.Limits.{most_session_items}
use Rattle.dq_base.specs.declared.value.Value.{Value}
use Rattle.dq_base.specs.declared.value.Value.TheVariants.{Null, Int, Word}
use Rattle.dq_base.specs.declared.predicate.Test.{Test}
use Rattle.dq_base.specs.declared.predicate.Test.TheVariants.{Among, Except, Between}
use Rattle.dq_base.specs.declared.predicate.Predicate.{Predicate}
use Rattle.dq_base.specs.declared.query.Query.{Query}
use Rattle.dq_base.specs.declared.script.Step.{Step}
use Rattle.dq_base.specs.declared.script.Step.TheVariants.{Publish, Batch}
use Rattle.dq_base.specs.declared.script.Session.{Session}
use Rattle.dq_base.specs.declared.script.Script.{Script}

-- sizes

-- a text counts one for each 32 bytes begun, and at least one; every other value counts one
abbrev pub value_items : Value → ℕ
value_items Null = 1
value_items (Int n) = 1
value_items (Word t) = max 1 ((length t + 31) / 32)

-- an empty list counts one
abbrev pub list_items : List Value → ℕ
list_items [] = 1
list_items (v ∷ vs) = sum_by value_items (v ∷ vs)

abbrev pub test_items : Test → ℕ
test_items (Among list) = list_items list
test_items (Except list) = list_items list
test_items (Between low high) = 1

abbrev pub filter_items : List Predicate → ℕ
filter_items filters = sum_by (λ p. test_items p.test) filters

-- a session of one of so many lanes, over one of so many extracts, whose filters aren't too large
abbrev pub session_fits : ℕ → ℕ → Session → Bool
session_fits lanes extracts s = nat_lt 0 s.lane && nat_le s.lane lanes && nat_lt s.source extracts && nat_le (filter_items s.filters) most_session_items

-- meanings

-- the rows that every predicate keeps, in order
abbrev pub visible : List Predicate → List (List Value) → List (List Value)
visible filters rows = filter (passes filters) rows

-- the filters of a lane over a source
abbrev pub filters_for : List Session → ℕ → ℕ → List Predicate
filters_for sessions lane source = flat_map (λ s. if nat_eq s.lane lane && nat_eq s.source source then s.filters else []) sessions

-- a lane's query, with the lane's filters over its source behind its own
abbrev pub shielded_query : List Session → ℕ → Query → Query
shielded_query sessions lane q = record q { filters = q.filters ++ filters_for sessions lane q.source }

abbrev pub shielded_step : List Session → ℕ → Step → Step
shielded_step sessions lane (Publish source how file) = Publish source how file
shielded_step sessions lane (Batch zones) = Batch (map (shielded_query sessions lane) zones)

-- lanes, of which the first has this number
abbrev pub shielded_lanes : List Session → ℕ → List (List Step) → List (List Step)
shielded_lanes sessions lane [] = []
shielded_lanes sessions lane (steps ∷ lanes) = map (shielded_step sessions lane) steps ∷ shielded_lanes sessions (lane + 1) lanes

-- each zone asks of what its lane's session leaves; all else stays
abbrev pub shielded : Script → Script
shielded script = record script { lanes = shielded_lanes script.sessions 1 script.lanes }
