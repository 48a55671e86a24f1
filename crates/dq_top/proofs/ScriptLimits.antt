-- A script passes limits on counts, and none on bytes.
use Rattle.std.proofs.Common.{◌≡◌, ℕ, List, ap, subst}
use Rattle.std.specs.Prelude.{Result, Ok, Err, Option, Some, None, option_map, length}
use Rattle.serde_json.specs.Data.{Data}
use Rattle.dq_base.specs.Limits.{most_extracts, most_lanes, most_all_zones, most_turns}
use Rattle.dq_base.specs.Scripts.{zones_count}
use Rattle.dq_base.specs.declared.limit.Limit.{Limit}
use Rattle.dq_base.specs.declared.limit.Limit.TheVariants.{Extracts, Columns, Lanes, Steps, Zones, AllZones, Turns, Faults, Capacity, SessionItems}
use Rattle.dq_base.specs.declared.script.Script.{Script}
use Rattle.dq_base.specs.declared.script.Step.{Step}
use Rattle.dq_script.specs.Drafts.{draft_of}
use Rattle.dq_script.specs.Readings.{Reading, or_else}
use Rattle.dq_script.specs.Reasons.{ScriptReason, not_json, shape, over, unknown_extract, unknown_lane, above, columns_above, faults_above, first_in, items_above, most_capacity, over_lanes, over_limit, over_rest, passed, reason_against, steps_above, stray_extract, stray_lane, stray_name, zones_above}
use Rattle.dq_script.specs.Scripts.{json_of, script_from, script_in, script_of, unless_reason}
use Rattle.dq_script.specs.declared.draft.Draft.{Draft}
use Rattle.dq_script.specs.declared.draft.Plan.{Plan}
use Rattle.dq_script.specs.declared.form.Form.{Form}
use Rattle.dq_top.specs.Outcomes.{LimitCause}

abbrev Counts : ScriptReason → Type 0
Counts not_json = Unit {0}
Counts (shape path) = Unit {0}
Counts (over which value) = (before now : ℕ) → LimitCause before now which value
Counts (unknown_extract path) = Unit {0}
Counts (unknown_lane path) = Unit {0}

abbrev AllCount : Option ScriptReason → Type 0
AllCount None = Unit {0}
AllCount (Some reason) = Counts reason

or_counts : (a b : Option ScriptReason) → AllCount a → AllCount b → AllCount (or_else a b)
or_counts None b p q = q
or_counts (Some reason) b p q = p

passed_counts : (which : Limit) → ((value before now : ℕ) → LimitCause before now which value) → (o : Option ℕ) → AllCount (passed which o)
passed_counts which h None = tt
passed_counts which h (Some value) = λ before now. h value before now

map_counts : (f : List ℕ → ScriptReason) → ((path : List ℕ) → Counts (f path)) → (o : Option (List ℕ)) → AllCount (option_map f o)
map_counts f h None = tt
map_counts f h (Some path) = h path

lanes_count : (lanes : List (List Step)) → AllCount (over_lanes lanes)
lanes_count lanes =
    or_counts (passed Lanes (above most_lanes (length lanes))) _ (passed_counts Lanes (λ v b n. tt) (above most_lanes (length lanes)))
    (or_counts (passed Steps (first_in steps_above lanes)) _ (passed_counts Steps (λ v b n. tt) (first_in steps_above lanes))
    (or_counts (passed Zones (first_in (first_in zones_above) lanes)) _ (passed_counts Zones (λ v b n. tt) (first_in (first_in zones_above) lanes))
    (passed_counts AllZones (λ v b n. tt) (above most_all_zones (zones_count lanes)))))

rest_counts : (form : Form) (p : Plan) → AllCount (over_rest form p)
rest_counts form p =
    or_counts (passed Turns (above most_turns (length p.schedule))) _ (passed_counts Turns (λ v b n. tt) (above most_turns (length p.schedule)))
    (or_counts (passed Faults (first_in faults_above p.faults)) _ (passed_counts Faults (λ v b n. tt) (first_in faults_above p.faults))
    (or_counts (passed Capacity (above (most_capacity form) p.literal)) _ (passed_counts Capacity (λ v b n. tt) (above (most_capacity form) p.literal))
    (or_counts (passed Capacity (above (most_capacity form) p.clever)) _ (passed_counts Capacity (λ v b n. tt) (above (most_capacity form) p.clever))
    (passed_counts SessionItems (λ v b n. tt) (first_in items_above p.sessions)))))

limits_count : (d : Draft) → AllCount (over_limit d)
limits_count d =
    or_counts (passed Extracts (above most_extracts (length d.extracts.names))) _ (passed_counts Extracts (λ v b n. tt) (above most_extracts (length d.extracts.names)))
    (or_counts (passed Columns (first_in columns_above d.extracts.schemas)) _ (passed_counts Columns (λ v b n. tt) (first_in columns_above d.extracts.schemas))
    (or_counts (over_lanes d.plan.lanes.lanes) (over_rest d.form d.plan) (lanes_count d.plan.lanes.lanes) (rest_counts d.form d.plan)))

names_count : (d : Draft) → AllCount (stray_name d)
names_count d =
    or_counts (option_map unknown_extract (stray_extract (length d.extracts.names) d.plan)) _
    (map_counts unknown_extract (λ path. tt) (stray_extract (length d.extracts.names) d.plan))
    (map_counts unknown_lane (λ path. tt) (stray_lane (length d.plan.lanes.lanes) d.plan))

reasons_count : (d : Draft) → AllCount (reason_against d)
reasons_count d = or_counts (over_limit d) (stray_name d) (limits_count d) (names_count d)

abbrev reason_or : ScriptReason → Result Script ScriptReason → ScriptReason
reason_or reason (Ok script) = reason
reason_or reason (Err other) = other

reason_counts : (d : Draft) (o : Option ScriptReason) (reason : ScriptReason) → AllCount o → unless_reason d o ≡ Err reason → Counts reason
reason_counts d None reason p is = absurd (cc)
reason_counts d (Some r) reason p is = subst Counts (ap (reason_or r) is) p

draft_counts : (r : Reading Draft) (which : Limit) (value : ℕ) → script_from r ≡ Err (over which value) → Counts (over which value)
draft_counts (Ok d) which value is = reason_counts d (reason_against d) (over which value) (reasons_count d) is
draft_counts (Err path) which value is = absurd (cc)

data_counts : (o : Option Data) (which : Limit) (value : ℕ) → script_in o ≡ Err (over which value) → Counts (over which value)
data_counts None which value is = absurd (cc)
data_counts (Some d) which value is = draft_counts (draft_of d) which value is

pub counted : (bytes : List ℕ) (which : Limit) (value before now : ℕ) → script_of bytes ≡ Err (over which value) → LimitCause before now which value
counted bytes which value before now is = data_counts (json_of bytes) which value is before now
