-- What is prepared of a lane's next step.
use Rattle.std.specs.Prelude.{◌≡◌, ℕ, true}
use Rattle.dq_base.specs.Scripts.{step_of, zones_of}
use Rattle.dq_batch.specs.Prepared.{IsPreparation}
use Rattle.dq_batch.specs.declared.preparation.Preparation.{Preparation}
use Rattle.dq_extract.specs.Loads.{LoadedFiles}
use Rattle.dq_machine.specs.Admitting.{is_batch}
use Rattle.dq_lane.specs.declared.progress.Progress.{Progress}
use Rattle.dq_lane.specs.declared.progress.Progress.TheVariants as progress

-- the step of that number is a batch, and this is its preparation
pub record IsPreparedWith (l : LoadedFiles) (lane number : ℕ) (p : Preparation) : Type 0 where
  pub kind : is_batch (step_of l.script.lanes lane number) ≡ true
  pub prepared : IsPreparation l.script.schemas (zones_of (step_of l.script.lanes lane number)) p

-- nothing is to be done before the turn of the step of that number, and what is prepared, if anything is, is that step
abbrev pub IsPreparedFor : {L : Type 0} → LoadedFiles → ℕ → ℕ → Progress L → Type 0
IsPreparedFor l lane number progress.Fresh = ⊥
IsPreparedFor l lane number progress.Ready = Unit {0}
IsPreparedFor l lane number (progress.Prepared p) = IsPreparedWith l lane number p
IsPreparedFor l lane number (progress.Open b) = ⊥
