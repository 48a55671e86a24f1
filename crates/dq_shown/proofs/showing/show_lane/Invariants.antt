use Rattle.dq_journal.specs.Shown.{joint_at}
use Rattle.dq_shown.proofs.Shows.{StepsShowing}
use Rattle.dq_shown.proofs.showing.show_lane.Given as goal

abbrev pub invariant-loop-place : goal.invariant-loop-place
invariant-loop-place l = StepsShowing (joint_at l.script l.lane) l.steps l.place l.shown
