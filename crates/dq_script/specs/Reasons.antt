-- Why a draft is no script: a limit that is passed, or a name that is unknown.
use Rattle.std.specs.Prelude.{ℕ, ◌+◌, ◌-◌, ◌^◌, min, List, [], ◌∷◌, ◌++◌, Bool, not, Option, Some, None, option_map, nat_lt, nat_le, length, if◌then◌else◌, codes}
use Rattle.std.specs.Fmt.{decimal}
use Rattle.std.specs.List.{list_any, position_from}
use Rattle.dq_base.specs.Headings.{Heading}
use Rattle.dq_base.specs.Limits.{most_extracts, most_columns, most_lanes, most_steps, most_zones, most_all_zones, most_turns, most_faults, most_entries, most_bound_cells, most_session_items}
use Rattle.dq_base.specs.Scripts.{zones_count}
use Rattle.dq_base.specs.Sessions.{filter_items}
use Rattle.dq_base.specs.declared.limit.Limit.{Limit}
use Rattle.dq_base.specs.declared.limit.Limit.TheVariants.{Extracts, Columns, Lanes, Steps, Zones, AllZones, Turns, Faults, Capacity, SessionItems}
use Rattle.dq_base.specs.declared.script.Step.{Step}
use Rattle.dq_base.specs.declared.script.Step.TheVariants.{Publish, Batch}
use Rattle.dq_script.specs.Readings.{or_else}
use Rattle.dq_script.specs.declared.draft.Draft.{Draft}
use Rattle.dq_script.specs.declared.draft.Plan.{Plan}
use Rattle.dq_script.specs.declared.faults.Fault.{Fault}
use Rattle.dq_script.specs.declared.form.Form.{Form}
use Rattle.dq_script.specs.declared.form.Form.TheVariants.{First, Second}
use Rattle.dq_script.specs.declared.sessions.Filtered.{Filtered}

-- bytes that are no JSON, a value of another shape, a limit that is passed by this value, and unknown names
pub data ScriptReason : Type 0 where
  not_json : ScriptReason
  shape : List ℕ → ScriptReason
  over : Limit → ℕ → ScriptReason
  unknown_extract : List ℕ → ScriptReason
  unknown_lane : List ℕ → ScriptReason

-- a number, where it is above the most
abbrev pub above : ℕ → ℕ → Option ℕ
above most n = if nat_le n most then None else Some n

-- what is found first in a list
abbrev pub first_in : {A B : Type 0} → (A → Option B) → List A → Option B
first_in find [] = None
first_in find (x ∷ xs) = or_else (find x) (first_in find xs)

-- as much of a count as a number of 64 bits tells
abbrev pub told : ℕ → ℕ
told n = min n (2 ^ 64 - 1)

abbrev pub columns_above : Heading → Option ℕ
columns_above h = above most_columns (length h.names)

abbrev pub steps_above : List Step → Option ℕ
steps_above steps = above most_steps (length steps)

abbrev pub zones_above : Step → Option ℕ
zones_above (Publish source how file) = None
zones_above (Batch zones) = above most_zones (length zones)

-- the dials before the links
abbrev pub faults_above : Fault → Option ℕ
faults_above f = or_else (above most_faults (length f.dials)) (above most_faults (length f.links))

abbrev pub most_capacity : Form → ℕ
most_capacity First = most_entries
most_capacity Second = most_bound_cells

abbrev pub items_above : Filtered → Option ℕ
items_above s = above most_session_items (told (filter_items s.filters))

abbrev pub passed : Limit → Option ℕ → Option ScriptReason
passed limit value = option_map (over limit) value

-- the first limit on lanes that is passed
abbrev pub over_lanes : List (List Step) → Option ScriptReason
over_lanes lanes =
    or_else (passed Lanes (above most_lanes (length lanes)))
    (or_else (passed Steps (first_in steps_above lanes))
    (or_else (passed Zones (first_in (first_in zones_above) lanes))
    (passed AllZones (above most_all_zones (zones_count lanes)))))

-- the first limit on what stands beside the lanes that is passed
abbrev pub over_rest : Form → Plan → Option ScriptReason
over_rest form p =
    or_else (passed Turns (above most_turns (length p.schedule)))
    (or_else (passed Faults (first_in faults_above p.faults))
    (or_else (passed Capacity (above (most_capacity form) p.literal))
    (or_else (passed Capacity (above (most_capacity form) p.clever))
    (passed SessionItems (first_in items_above p.sessions)))))

-- the first limit that is passed
abbrev pub over_limit : Draft → Option ScriptReason
over_limit d =
    or_else (passed Extracts (above most_extracts (length d.extracts.names)))
    (or_else (passed Columns (first_in columns_above d.extracts.schemas))
    (or_else (over_lanes d.plan.lanes.lanes) (over_rest d.form d.plan)))

-- the path of the first item in which something is found, from the list on; the first item stands at this place
abbrev pub found_in : {A : Type 0} → (A → Option (List ℕ)) → ℕ → List A → Option (List ℕ)
found_in find place [] = None
found_in find place (x ∷ xs) = or_else (option_map (λ path. 47 ∷ (decimal place ++ path)) (find x)) (found_in find (place + 1) xs)

abbrev pub unless : Bool → List ℕ → Option (List ℕ)
unless b path = if b then None else Some path

-- a publication of no extract, of so many
abbrev pub stray_publish : ℕ → Step → Option (List ℕ)
stray_publish extracts (Publish source how file) = unless (nat_lt source extracts) (codes "/publish")
stray_publish extracts (Batch zones) = None

abbrev pub stray_steps : ℕ → List Step → Option (List ℕ)
stray_steps extracts steps = found_in (stray_publish extracts) 0 steps

-- a session of no extract, of so many
abbrev pub stray_source : ℕ → Filtered → Option (List ℕ)
stray_source extracts s = unless (nat_lt s.source extracts) (codes "/source")

-- a turn of no lane, of so many
abbrev pub stray_turn : ℕ → ℕ → Option (List ℕ)
stray_turn lanes turn = unless (nat_le turn lanes) []

abbrev pub stray_fault : ℕ → Fault → Option (List ℕ)
stray_fault lanes f = unless (nat_le f.lane lanes) (codes "/lane")

abbrev pub stray_session : ℕ → Filtered → Option (List ℕ)
stray_session lanes s = unless (nat_le s.lane lanes) (codes "/lane")

-- what is found in the member of this name
abbrev pub found_at : List ℕ → Option (List ℕ) → Option (List ℕ)
found_at name path = option_map (λ rest. 47 ∷ (name ++ rest)) path

-- the first publication of no extract, and then the first session
abbrev pub stray_extract : ℕ → Plan → Option (List ℕ)
stray_extract extracts p = or_else
    (found_at (codes "lanes") (found_in (stray_steps extracts) 0 p.lanes.lanes))
    (found_at (codes "sessions") (found_in (stray_source extracts) 0 p.sessions))

-- the first lane's number above that of lanes, in the schedule, then in the faults and then in the sessions
abbrev pub stray_lane : ℕ → Plan → Option (List ℕ)
stray_lane lanes p = or_else
    (found_at (codes "schedule") (found_in (stray_turn lanes) 0 p.schedule))
    (or_else (found_at (codes "faults") (found_in (stray_fault lanes) 0 p.faults))
    (found_at (codes "sessions") (found_in (stray_session lanes) 0 p.sessions)))

-- the first name that is unknown
abbrev pub stray_name : Draft → Option ScriptReason
stray_name d = or_else
    (option_map unknown_extract (stray_extract (length d.extracts.names) d.plan))
    (option_map unknown_lane (stray_lane (length d.plan.lanes.lanes) d.plan))

-- the first reason against what was read
abbrev pub reason_against : Draft → Option ScriptReason
reason_against d = or_else (over_limit d) (stray_name d)
