-- The sessions that a script writes.
use Rattle.std.specs.Prelude.{ℕ, List, [], ◌∷◌, ◌++◌, Option, Ok, option_and_then, codes}
use Rattle.std.specs.Ordering.{nat_cmp, ordering_then}
use Rattle.std.specs.declared.cmp.Ordering.{Ordering}
use Rattle.serde_json.specs.Data.{Data}
use Rattle.serde_json.specs.Find.{as_str}
use Rattle.dq_base.specs.declared.predicate.Predicate.{Predicate}
use Rattle.dq_script.specs.Arrays.{array_of, array_after}
use Rattle.dq_script.specs.Faults.{whole_from}
use Rattle.dq_script.specs.Filters.{filter_of}
use Rattle.dq_script.specs.Objects.{object_of, wanted, optional}
use Rattle.dq_script.specs.Parts.{place_in}
use Rattle.dq_script.specs.Places.{is_new, text_cmp}
use Rattle.dq_script.specs.Readings.{Reading, given, kept_if, mapped, and_then}
use Rattle.dq_script.specs.Zones.{columns_at}
use Rattle.dq_script.specs.declared.extracts.Extracts.{Extracts}
use Rattle.dq_script.specs.declared.form.Form.{Form}
use Rattle.dq_script.specs.declared.form.Form.TheVariants as form
use Rattle.dq_script.specs.declared.sessions.Filtered.{Filtered}
use Rattle.dq_script.specs.declared.sessions.Sessions.{Sessions}

-- a session is told by the name of its source and its lane
abbrev pub key_cmp : (List ℕ × ℕ) → (List ℕ × ℕ) → Ordering
key_cmp a b = ordering_then (text_cmp a.0 b.0) (nat_cmp a.1 b.1)

abbrev pub unless_told : List (List ℕ × ℕ) → ℕ → List ℕ → Option (List ℕ)
unless_told keys lane name = kept_if (is_new key_cmp keys (name, lane)) name

-- the name of a source for which no earlier session of the lane is told
abbrev pub new_source : List (List ℕ × ℕ) → ℕ → Data → Reading (List ℕ)
new_source keys lane d = given (option_and_then (unless_told keys lane) (as_str d))

abbrev pub filtered_with : ℕ → List ℕ → ℕ → List Predicate → Filtered
filtered_with lane name source filters = record { lane = lane; name = name; source = source; filters = filters }

abbrev pub filters_over : Extracts → Data → ℕ → List ℕ → ℕ → Reading Filtered
filters_over es d lane name source = mapped (filtered_with lane name source) (wanted (codes "filters") (array_of (filter_of (columns_at es.schemas source))) d)

abbrev pub source_parts : Extracts → List (List ℕ × ℕ) → Data → ℕ → Reading Filtered
source_parts es keys d lane = and_then (λ name. filters_over es d lane name (place_in es.names name)) (wanted (codes "source") (new_source keys lane) d)

-- an object of a lane, a source and filters
abbrev pub session_of : Extracts → List (List ℕ × ℕ) → Data → Reading Filtered
session_of es keys d = object_of (codes "lane" ∷ codes "source" ∷ codes "filters" ∷ []) (and_then (source_parts es keys d) (wanted (codes "lane") (whole_from 1) d)) d

abbrev pub with_session : Sessions → Filtered → Sessions
with_session ss f = record { keys = ss.keys ++ (f.name, f.lane) ∷ []; sessions = ss.sessions ++ f ∷ [] }

abbrev pub next_session : Extracts → Sessions → Data → Reading Sessions
next_session es ss d = mapped (with_session ss) (session_of es ss.keys d)

abbrev pub no_sessions : Sessions
no_sessions = record { keys = []; sessions = [] }

-- an array of sessions
abbrev pub sessions_of : Extracts → Data → Reading (List Filtered)
sessions_of es d = mapped (λ ss. ss.sessions) (array_after (next_session es) no_sessions d)

-- only the second form knows sessions
abbrev pub sessions_in : Form → Extracts → Data → Reading (List Filtered)
sessions_in form.First es d = Ok []
sessions_in form.Second es d = optional [] (codes "sessions") (sessions_of es) d
