-- The script that bytes mean, or why they mean none.
use Rattle.std.specs.Prelude.{◌≡◌, ⊤, ℕ, ◌+◌, List, [], ◌∷◌, ◌++◌, map, Option, Some, None, nat_eq, if◌then◌else◌, Result, Ok, Err}
use Rattle.std.specs.Str.{is_utf8}
use Rattle.serde_json.specs.Data.{Data}
use Rattle.serde_json.specs.Read.{read}
use Rattle.dq_base.specs.declared.bound.Bound.{Bound}
use Rattle.dq_base.specs.declared.bound.Bound.TheVariants.{Entries, Cells}
use Rattle.dq_base.specs.declared.script.Blend.{Blend}
use Rattle.dq_base.specs.declared.script.Step.{Step}
use Rattle.dq_base.specs.declared.script.Fails.{Fails}
use Rattle.dq_base.specs.declared.script.Script.{Script}
use Rattle.dq_base.specs.declared.script.Session.{Session}
use Rattle.dq_script.specs.Drafts.{draft_of}
use Rattle.dq_script.specs.Readings.{Reading}
use Rattle.dq_script.specs.Reasons.{ScriptReason, not_json, shape, over, unknown_extract, unknown_lane, reason_against}
use Rattle.dq_script.specs.declared.batch.Pair.{Pair}
use Rattle.dq_script.specs.declared.draft.Draft.{Draft}
use Rattle.dq_script.specs.declared.fault.ScriptFault.{ScriptFault}
use Rattle.dq_script.specs.declared.fault.ScriptFault.TheVariants as fault
use Rattle.dq_script.specs.declared.faults.Fault.{Fault}
use Rattle.dq_script.specs.declared.form.Form.{Form}
use Rattle.dq_script.specs.declared.form.Form.TheVariants.{First, Second}
use Rattle.dq_script.specs.declared.sessions.Filtered.{Filtered}

-- the JSON of these bytes
abbrev pub json_of : List ℕ → Option Data
json_of bytes = if is_utf8 bytes then read bytes else None

-- the first form bounds a cache by entries, the second by cells
abbrev pub bound_with : Form → ℕ → Bound
bound_with First n = Entries n
bound_with Second n = Cells n

-- what is wanted to fail in a lane: nothing where no fault has its number
abbrev pub fails_in : List Fault → ℕ → Fails
fails_in [] lane = record { dials = []; links = [] }
fails_in (f ∷ fs) lane = if nat_eq f.lane lane then record { dials = f.dials; links = f.links } else fails_in fs lane

-- one item for each of these lanes, the first of which has this number
abbrev pub fails_from : List Fault → ℕ → List (List Step) → List Fails
fails_from fs lane [] = []
fails_from fs lane (steps ∷ more) = fails_in fs lane ∷ fails_from fs (lane + 1) more

abbrev pub session_with : Filtered → Session
session_with s = record { lane = s.lane; source = s.source; filters = s.filters }

-- a pair of zones of a lane's step, both numbered from 1
abbrev pub blend_with : ℕ → ℕ → Pair → Blend
blend_with lane step p = record { lane = lane; step = step; zone = p.zone; links = p.links }

-- the blends of a lane's steps, the first of which has this number
abbrev pub blends_in : ℕ → ℕ → List (List Pair) → List Blend
blends_in lane step [] = []
blends_in lane step (ps ∷ more) = map (blend_with lane step) ps ++ blends_in lane (step + 1) more

-- the blends of lanes, the first of which has this number
abbrev pub blends_from : ℕ → List (List (List Pair)) → List Blend
blends_from lane [] = []
blends_from lane (pss ∷ more) = blends_in lane 1 pss ++ blends_from (lane + 1) more

abbrev pub script_with : Draft → Script
script_with d = record {
  names = d.extracts.names;
  schemas = d.extracts.schemas;
  literal = bound_with d.form d.plan.literal;
  clever = bound_with d.form d.plan.clever;
  lanes = d.plan.lanes.lanes;
  schedule = d.plan.schedule;
  fails = fails_from d.plan.faults 1 d.plan.lanes.lanes;
  sessions = map session_with d.plan.sessions;
  blends = blends_from 1 d.plan.lanes.pairs;
}

abbrev pub unless_reason : Draft → Option ScriptReason → Result Script ScriptReason
unless_reason d None = Ok (script_with d)
unless_reason d (Some reason) = Err reason

-- the limits and the names are tested after the whole walk
abbrev pub script_from : Reading Draft → Result Script ScriptReason
script_from (Ok d) = unless_reason d (reason_against d)
script_from (Err path) = Err (shape path)

abbrev pub script_in : Option Data → Result Script ScriptReason
script_in None = Err not_json
script_in (Some d) = script_from (draft_of d)

-- the script that bytes mean, or the first reason against them
abbrev pub script_of : List ℕ → Result Script ScriptReason
script_of bytes = script_in (json_of bytes)

-- the script that is meant, or the first reason against it; only want of memory is told besides
abbrev pub AnswersScript : Result Script ScriptReason → Result Script ScriptFault → Type 0
AnswersScript want (Ok script) = want ≡ Ok script
AnswersScript want (Err fault.NotJson) = want ≡ Err not_json
AnswersScript want (Err (fault.Shape path)) = want ≡ Err (shape path)
AnswersScript want (Err (fault.Limit limit value)) = want ≡ Err (over limit value)
AnswersScript want (Err (fault.UnknownExtract path)) = want ≡ Err (unknown_extract path)
AnswersScript want (Err (fault.UnknownLane path)) = want ≡ Err (unknown_lane path)
AnswersScript want (Err fault.Memory) = ⊤

-- the first reason against a draft is told, and nothing where there is none
abbrev pub AnswersReason : Option ScriptReason → Option ScriptFault → Type 0
AnswersReason reason None = reason ≡ None
AnswersReason reason (Some fault.NotJson) = ⊥
AnswersReason reason (Some (fault.Shape path)) = ⊥
AnswersReason reason (Some (fault.Limit limit value)) = reason ≡ Some (over limit value)
AnswersReason reason (Some (fault.UnknownExtract path)) = reason ≡ Some (unknown_extract path)
AnswersReason reason (Some (fault.UnknownLane path)) = reason ≡ Some (unknown_lane path)
AnswersReason reason (Some fault.Memory) = ⊤
