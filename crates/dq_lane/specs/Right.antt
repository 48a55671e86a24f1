-- When the results of a lane are right.
use Rattle.std.specs.Prelude.{◌≡◌, ℕ, true, List, ◌++◌, length, take}
use Rattle.dq_extract.specs.Loads.{LoadedFiles}
use Rattle.dq_fates.specs.GoingOn.{GoesOn}
use Rattle.dq_journal.specs.declared.entry.Entry.{Entry}
use Rattle.dq_journal.specs.declared.result.StepResult.{StepResult}
use Rattle.dq_machine.specs.Machine.{legal}
use Rattle.dq_machine.specs.Order.{lane_keeps}
use Rattle.dq_machine.specs.Right.{AreResults}
use Rattle.dq_lane.specs.View.{steps_of}

-- right for a journal, which keeps the lane's order
pub record IsLaneRight (l : LoadedFiles) (journal : List Entry) (lane : ℕ) (results : List StepResult) : Type 0 where
  pub right : AreResults l journal lane (steps_of l lane) results
  pub keeps : lane_keeps journal lane (steps_of l lane) results ≡ true

-- results of all its steps, right for every legal journal that goes on from this one without the lane
pub record IsRightFrom (l : LoadedFiles) (lane : ℕ) (seen : List Entry) (results : List StepResult) : Type 0 where
  pub on : (journal : List Entry) → legal l journal ≡ true → GoesOn lane seen journal → IsLaneRight l journal lane results

-- results of the lane's first steps, right for every legal journal that goes on from this one
pub record IsRightSoFar (l : LoadedFiles) (lane : ℕ) (seen : List Entry) (results : List StepResult) : Type 0 where
  pub on : (more : List Entry) → legal l (seen ++ more) ≡ true → AreResults l (seen ++ more) lane (take (length results) (steps_of l lane)) results
