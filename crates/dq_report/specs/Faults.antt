-- Why a report isn't written whole.
use Rattle.std.specs.Prelude.{◌≡◌, ℕ, ◌≤◌, Result, Err}
use Rattle.dq_base.specs.Causes.{Rose}
use Rattle.dq_outside.specs.declared.sink.SinkFault.{SinkFault}
use Rattle.dq_outside.specs.declared.sink.SinkFault.TheVariants as sink
use Rattle.dq_report.specs.declared.writing.WriteFault.{WriteFault}
use Rattle.dq_report.specs.declared.writing.WriteFault.TheVariants as fault

-- a sink's fault as the report's
abbrev pub FaultOf : SinkFault → WriteFault → Type 0
FaultOf sink.Failed fault.Failed = Unit {0}
FaultOf sink.Failed fault.Memory = ⊥
FaultOf sink.Memory fault.Failed = ⊥
FaultOf sink.Memory fault.Memory = Unit {0}

-- how the sink's count of faults moves
pub record CountsFaults {T : Type 0} (before now : ℕ) (result : Result T WriteFault) : Type 0 where
  pub later : before ≤ now
  pub failed : result ≡ Err fault.Failed → Rose before now
