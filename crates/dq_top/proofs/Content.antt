-- What is told of a script's content.
use Rattle.std.proofs.Common.{ℕ, List, Some, subst, sym}
use Rattle.std.specs.Prelude.{Err}
use Rattle.dq_base.specs.declared.limit.Limit.{Limit}
use Rattle.dq_script.specs.Scripts.{script_of, AnswersScript}
use Rattle.dq_script.specs.declared.fault.ScriptFault.{ScriptFault}
use Rattle.dq_script.specs.declared.fault.ScriptFault.TheVariants as script
use Rattle.dq_top.specs.Outcomes.{IsFault, LimitCause, TakenCause, TellsScript}
use Rattle.dq_top.specs.declared.fault.Fault.{Fault}
use Rattle.dq_top.specs.declared.fault.Fault.TheVariants as fault
use Rattle.dq_top.proofs.ScriptLimits.{counted}

of_script : (name : List ℕ) (g : ScriptFault) (f : Fault) (before now : ℕ) → IsFault (fault.Script name g) f → TakenCause before now (Some f)
of_script name g fault.Usage before now is = tt
of_script name g (fault.Read n) before now is = tt
of_script name g (fault.Script n h) before now is = tt
of_script name g (fault.File n h) before now is = tt
of_script name g fault.Write before now is = tt
of_script name g fault.Memory before now is = tt
of_script name g (fault.Limit which value) before now is = absurd (cc)

of_limit : (w : Limit) (v : ℕ) (f : Fault) (before now : ℕ) → LimitCause before now w v → IsFault (fault.Limit w v) f → TakenCause before now (Some f)
of_limit w v fault.Usage before now cause is = tt
of_limit w v (fault.Read n) before now cause is = tt
of_limit w v (fault.Script n h) before now cause is = tt
of_limit w v (fault.File n h) before now cause is = tt
of_limit w v fault.Write before now cause is = tt
of_limit w v fault.Memory before now cause is = tt
of_limit w v (fault.Limit which value) before now cause is = let P : Fault → Type 0 = λ g. TakenCause before now (Some g) in subst P (sym is) cause

-- no limit on bytes is told of a script's content
pub content_counted : (bytes name : List ℕ) (g : ScriptFault) (f : Fault) (before now : ℕ) → AnswersScript (script_of bytes) (Err g) → TellsScript name g f → TakenCause before now (Some f)
content_counted bytes name script.NotJson f before now answers tells = of_script name script.NotJson f before now tells
content_counted bytes name (script.Shape path) f before now answers tells = of_script name (script.Shape path) f before now tells
content_counted bytes name (script.Limit which value) f before now answers tells = of_limit which value f before now (counted bytes which value before now answers) tells
content_counted bytes name (script.UnknownExtract path) f before now answers tells = of_script name (script.UnknownExtract path) f before now tells
content_counted bytes name (script.UnknownLane path) f before now answers tells = of_script name (script.UnknownLane path) f before now tells
content_counted bytes name script.Memory f before now answers tells = let P : Fault → Type 0 = λ g. TakenCause before now (Some g) in subst P (sym tells) tt
