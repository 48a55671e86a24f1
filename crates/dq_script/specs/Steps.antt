-- The steps and lanes that a script writes.
use Rattle.std.specs.Prelude.{ℕ, List, [], ◌∷◌, ◌++◌, Bool, ◌||◌, not, Option, Some, None, if◌then◌else◌, codes}
use Rattle.serde_json.specs.Data.{Data}
use Rattle.dq_base.specs.declared.script.How.{How}
use Rattle.dq_base.specs.declared.script.How.TheVariants as how
use Rattle.dq_base.specs.declared.script.Step.TheVariants as step
use Rattle.dq_script.specs.Arrays.{array_after}
use Rattle.dq_script.specs.Batches.{batch_of}
use Rattle.dq_script.specs.Objects.{has, object_of, wanted}
use Rattle.dq_script.specs.Parts.{is_string, string_of}
use Rattle.dq_script.specs.Readings.{Reading, given, provided, mapped, both}
use Rattle.dq_script.specs.Zones.{source_in}
use Rattle.dq_script.specs.declared.batch.Batch.{Batch}
use Rattle.dq_script.specs.declared.extracts.Extracts.{Extracts}
use Rattle.dq_script.specs.declared.form.Form.{Form}
use Rattle.dq_script.specs.declared.step.Taken.{Taken}
use Rattle.dq_script.specs.declared.step.Lane.{Lane}
use Rattle.dq_script.specs.declared.step.Lanes.{Lanes}

-- "replace" or "append"
abbrev pub how_of : Data → Option How
how_of d = if is_string (codes "replace") d then Some how.Replace else if is_string (codes "append") d then Some how.Append else None

abbrev pub publish_with : (ℕ × (How × List ℕ)) → Taken
publish_with p = record { step = step.Publish p.0 p.1.0 p.1.1; pairs = [] }

-- an object of an extract's name, how a file is taken, and the file
abbrev pub publish_of : Extracts → Data → Reading Taken
publish_of es d = object_of (codes "publish" ∷ codes "how" ∷ codes "file" ∷ [])
    (mapped publish_with (both (wanted (codes "publish") (source_in es) d) (both (wanted (codes "how") (λ h. given (how_of h)) d) (wanted (codes "file") (λ f. given (string_of f)) d)))) d

abbrev pub batch_with : Batch → Taken
batch_with b = record { step = step.Batch b.zones; pairs = b.pairs }

-- an object of an array of zones
abbrev pub batch_in : Form → Extracts → Data → Reading Taken
batch_in f es d = object_of (codes "batch" ∷ []) (mapped batch_with (wanted (codes "batch") (batch_of f es) d)) d

-- an object with a member of a publication
abbrev pub has_publish : Data → Bool
has_publish d = has (codes "publish") d || (has (codes "how") d || has (codes "file") d)

-- a batch alone, or a publication
abbrev pub step_of : Form → Extracts → Data → Reading Taken
step_of f es d =
    if has (codes "batch") d then provided (not (has_publish d)) (batch_in f es d)
    else provided (has (codes "publish") d) (publish_of es d)

abbrev pub with_step : Lane → Taken → Lane
with_step l t = record { steps = l.steps ++ t.step ∷ []; pairs = l.pairs ++ t.pairs ∷ [] }

abbrev pub next_step : Form → Extracts → Lane → Data → Reading Lane
next_step f es l d = mapped (with_step l) (step_of f es d)

abbrev pub no_steps : Lane
no_steps = record { steps = []; pairs = [] }

-- an array of steps
abbrev pub lane_of : Form → Extracts → Data → Reading Lane
lane_of f es d = array_after (next_step f es) no_steps d

abbrev pub with_lane : Lanes → Lane → Lanes
with_lane ls l = record { lanes = ls.lanes ++ l.steps ∷ []; pairs = ls.pairs ++ l.pairs ∷ [] }

abbrev pub next_lane : Form → Extracts → Lanes → Data → Reading Lanes
next_lane f es ls d = mapped (with_lane ls) (lane_of f es d)

abbrev pub no_lanes : Lanes
no_lanes = record { lanes = []; pairs = [] }

-- an array of lanes
abbrev pub lanes_of : Form → Extracts → Data → Reading Lanes
lanes_of f es d = array_after (next_lane f es) no_lanes d
