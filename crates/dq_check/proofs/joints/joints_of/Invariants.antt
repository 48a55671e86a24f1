use Rattle.std.proofs.Common.{◌≡◌, ◌+◌, ◌++◌, drop}
use Rattle.dq_journal.specs.Shown.{joint_at}
use Rattle.dq_check.specs.Grounds.{joints_over}
use Rattle.dq_check.proofs.joints.joints_of.Given as goal

abbrev pub invariant-loop-place : goal.invariant-loop-place
invariant-loop-place l =
    joints_over (joint_at l.script l.lane l.step) 1 l.zones ≡ l.joints.items ++ joints_over (joint_at l.script l.lane l.step) (l.place + 1) (drop l.place l.zones)
