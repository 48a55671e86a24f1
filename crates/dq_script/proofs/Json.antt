-- The JSON of bytes, and the script of what was read.
use Rattle.std.proofs.Common.{◌≡◌, ℕ, List, Option, Some, None, refl, ap, sym, ◌∙◌, subst, inl, inr}
use Rattle.std.proofs.lemmas.Bool.{cases_Bool}
use Rattle.std.proofs.lemmas.Str.{is_utf8-from_IsUtf8, IsUtf8-from_is_utf8}
use Rattle.std.specs.Str.{is_utf8}
use Rattle.std.specs.Prelude.{IsUtf8, Result, Ok, Err}
use Rattle.serde_json.specs.Data.{Data}
use Rattle.serde_json.specs.Read.{read}
use Rattle.dq_base.specs.declared.script.Script.{Script}
use Rattle.dq_script.specs.Readings.{Reading, or_else}
use Rattle.dq_script.specs.Reasons.{ScriptReason, not_json, over_limit, stray_name, reason_against}
use Rattle.dq_script.specs.Scripts.{json_of, script_with, unless_reason, script_from, script_in, script_of, AnswersScript, AnswersReason}
use Rattle.dq_script.specs.declared.draft.Draft.{Draft}
use Rattle.dq_script.specs.declared.fault.ScriptFault.{ScriptFault}
use Rattle.dq_script.specs.declared.fault.ScriptFault.TheVariants as fault

json_is : (bytes : List ℕ) (d : Data) → IsUtf8 bytes → read bytes ≡ Some d → json_of bytes ≡ Some d
json_is bytes d utf8 e = rw (is_utf8-from_IsUtf8 bytes utf8) e

no_json : (bytes : List ℕ) → (IsUtf8 bytes → read bytes ≡ None) → json_of bytes ≡ None
no_json bytes none = elim (cases_Bool (is_utf8 bytes)) [
  | inl valid ↦ rw valid (none (IsUtf8-from_is_utf8 bytes valid))
  | inr broken ↦ rw broken refl
]

-- what answers the value that the bytes read as answers the bytes
pub answers_bytes : (bytes : List ℕ) (d : Data) (result : Result Script ScriptFault)
    → IsUtf8 bytes → read bytes ≡ Some d → AnswersScript (script_in (Some d)) result → AnswersScript (script_of bytes) result
answers_bytes bytes d result utf8 e is =
    let P : Option Data → Type 0 = λ o. AnswersScript (script_in o) result in
    subst P (sym (json_is bytes d utf8 e)) is

-- bytes that aren't JSON
pub no_script : (bytes : List ℕ) → (IsUtf8 bytes → read bytes ≡ None) → script_of bytes ≡ Err not_json
no_script bytes none = ap script_in (no_json bytes none)

-- the first reason against what was read is why there is no script
reason_so : (d : Draft) (o : Option ScriptReason) (f : ScriptFault) → AnswersReason o (Some f) → AnswersScript (unless_reason d o) (Err f)
reason_so d o fault.NotJson is = absurd is
reason_so d o (fault.Shape path) is = absurd is
reason_so d o (fault.Limit limit value) is = ap (unless_reason d) is
reason_so d o (fault.UnknownExtract path) is = ap (unless_reason d) is
reason_so d o (fault.UnknownLane path) is = ap (unless_reason d) is
reason_so d o fault.Memory is = tt

pub refused : (r : Reading Draft) (d : Draft) (f : ScriptFault) → r ≡ Ok d → AnswersReason (reason_against d) (Some f) → AnswersScript (script_from r) (Err f)
refused r d f read is =
    let P : Reading Draft → Type 0 = λ x. AnswersScript (script_from x) (Err f) in
    subst P (sym read) (reason_so d (reason_against d) f is)

pub made : (r : Reading Draft) (d : Draft) (s : Script) → r ≡ Ok d → reason_against d ≡ None → s ≡ script_with d → script_from r ≡ Ok s
made r d s read none is = rw (read, none, is) refl
