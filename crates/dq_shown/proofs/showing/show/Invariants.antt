use Rattle.dq_journal.specs.Shown.{joint_at}
use Rattle.dq_shown.proofs.Shows.{LanesShowing}
use Rattle.dq_shown.proofs.showing.show.Given as goal

abbrev pub invariant-loop-place : goal.invariant-loop-place
invariant-loop-place l = LanesShowing (joint_at l.script) l.results l.place l.shown
