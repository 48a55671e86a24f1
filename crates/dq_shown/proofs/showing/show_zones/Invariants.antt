use Rattle.dq_journal.specs.Shown.{joint_at}
use Rattle.dq_shown.specs.Showing.{pending_of}
use Rattle.dq_shown.proofs.Shows.{Showing}
use Rattle.dq_shown.proofs.showing.show_zones.Given as goal

abbrev pub invariant-loop-place : goal.invariant-loop-place
invariant-loop-place l = Showing (joint_at l.script l.lane l.step) l.zones l.place (pending_of l.script.lanes l.pending) l.shown
