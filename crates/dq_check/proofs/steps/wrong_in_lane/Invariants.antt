use Rattle.dq_check.proofs.Judged.{StepsLeft}
use Rattle.dq_check.proofs.steps.wrong_in_lane.Given as goal

abbrev pub invariant-loop-place : goal.invariant-loop-place
invariant-loop-place l = StepsLeft l.loaded l.journal l.lane l.steps l.told l.place
