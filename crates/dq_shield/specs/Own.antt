-- The filters of one lane, and what they do to its steps.
use Rattle.std.specs.Prelude.{ℕ, nat_eq, List, [], ◌++◌, map, if◌then◌else◌}
use Rattle.std.specs.List.{filter, flat_map}
use Rattle.dq_base.specs.declared.predicate.Predicate.{Predicate}
use Rattle.dq_base.specs.declared.query.Query.{Query}
use Rattle.dq_base.specs.declared.script.Session.{Session}
use Rattle.dq_base.specs.declared.script.Step.{Step}
use Rattle.dq_base.specs.declared.script.Step.TheVariants.{Publish, Batch}

-- the sessions of a lane
abbrev pub sessions_of : ℕ → List Session → List Session
sessions_of lane sessions = filter (λ s. nat_eq s.lane lane) sessions

-- the filters over a source
abbrev pub filters_over : ℕ → List Session → List Predicate
filters_over source own = flat_map (λ s. if nat_eq s.source source then s.filters else []) own

-- a zone of the lane of these sessions
abbrev pub zone_with : List Session → Query → Query
zone_with own q = record q { filters = q.filters ++ filters_over q.source own }

abbrev pub step_with : List Session → Step → Step
step_with own (Publish source how file) = Publish source how file
step_with own (Batch zones) = Batch (map (zone_with own) zones)
