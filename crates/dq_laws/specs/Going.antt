-- That a run can go on: some lane has something to do.
use Rattle.std.specs.Prelude.{◌≡◌, ℕ, true, false, length}
use Rattle.dq_base.specs.Scripts.{is_lane}
use Rattle.dq_extract.specs.Loads.{LoadedFiles}
use Rattle.dq_machine.specs.State.{State, work_of}
use Rattle.dq_machine.specs.Taking.{waits}

-- there is a lane of the script that hasn't ended and doesn't wait
pub record SomeGoesOn (l : LoadedFiles) (s : State) : Type 0 where
  pub lane : ℕ
  pub within : is_lane (length l.script.lanes) lane ≡ true
  pub unended : (work_of s lane).ended ≡ false
  pub goes : waits s (work_of s lane) ≡ false
