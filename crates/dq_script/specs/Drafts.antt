-- The whole script, before its limits are tested.
use Rattle.std.specs.Prelude.{ℕ, List, [], ◌∷◌, codes}
use Rattle.serde_json.specs.Data.{Data}
use Rattle.dq_script.specs.Columns.{extracts_of, known}
use Rattle.dq_script.specs.Faults.{whole_from, numbers_of, faults_of}
use Rattle.dq_script.specs.Forms.{form_of}
use Rattle.dq_script.specs.Objects.{object_of, no_strangers, is_object, wanted, optional}
use Rattle.dq_script.specs.Readings.{Reading, given, provided, mapped, both, and_then}
use Rattle.dq_script.specs.Sessions.{sessions_in}
use Rattle.dq_script.specs.Steps.{lanes_of}
use Rattle.dq_script.specs.declared.draft.Draft.{Draft}
use Rattle.dq_script.specs.declared.draft.Plan.{Plan}
use Rattle.dq_script.specs.declared.extracts.Extracts.{Extracts}
use Rattle.dq_script.specs.declared.faults.Fault.{Fault}
use Rattle.dq_script.specs.declared.form.Form.{Form}
use Rattle.dq_script.specs.declared.form.Form.TheVariants.{First, Second}
use Rattle.dq_script.specs.declared.sessions.Filtered.{Filtered}
use Rattle.dq_script.specs.declared.step.Lanes.{Lanes}

-- how much a cache holds where nothing is said: entries in the first form, cells in the second
abbrev pub usual_capacity : Form → ℕ
usual_capacity First = 64
usual_capacity Second = 1048576

abbrev pub capacity_of : Form → List ℕ → Data → Reading ℕ
capacity_of form name d = optional (usual_capacity form) name (whole_from 1) d

abbrev pub plan_with : ((ℕ × ℕ) × (Lanes × (List ℕ × (List Fault × List Filtered)))) → Plan
plan_with p = record { literal = p.0.0; clever = p.0.1; lanes = p.1.0; schedule = p.1.1.0; faults = p.1.1.1.0; sessions = p.1.1.1.1 }

-- what a script says over its extracts
abbrev pub plan_of : Form → Extracts → Data → Reading Plan
plan_of form es d = mapped plan_with (both
    (both (capacity_of form (codes "literal") d) (capacity_of form (codes "clever") d))
    (both (wanted (codes "lanes") (lanes_of form es) d)
    (both (optional [] (codes "schedule") (numbers_of 1) d) (both (optional [] (codes "faults") faults_of d) (sessions_in form es d)))))

abbrev pub draft_with : Form → Extracts → Plan → Draft
draft_with form es p = record { form = form; extracts = es; plan = p }

-- names are told over extracts within their limits alone
abbrev pub draft_over : Data → Form → Extracts → Reading Draft
draft_over d form es = mapped (draft_with form es) (plan_of form (known es) d)

abbrev pub draft_in : Data → Form → Reading Draft
draft_in d form = and_then (draft_over d form) (wanted (codes "extracts") extracts_of d)

abbrev pub draft_parts : Data → Reading Draft
draft_parts d = and_then (draft_in d) (wanted (codes "form") (λ n. given (form_of n)) d)

-- the members of a script
abbrev pub members_of : Form → List (List ℕ)
members_of First = codes "form" ∷ codes "extracts" ∷ codes "literal" ∷ codes "clever" ∷ codes "lanes" ∷ codes "schedule" ∷ codes "faults" ∷ []
members_of Second = codes "form" ∷ codes "extracts" ∷ codes "literal" ∷ codes "clever" ∷ codes "lanes" ∷ codes "schedule" ∷ codes "faults" ∷ codes "sessions" ∷ []

abbrev pub without_strangers : Data → Draft → Reading Draft
without_strangers d t = mapped (λ u. t) (no_strangers (members_of t.form) d)

-- an object of the form, the extracts and what is said over them
abbrev pub draft_of : Data → Reading Draft
draft_of d = provided (is_object d) (and_then (without_strangers d) (draft_parts d))
