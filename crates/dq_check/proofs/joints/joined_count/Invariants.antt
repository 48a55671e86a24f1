use Rattle.std.proofs.Common.{◌≡◌, ◌+◌, ◌≤◌, false, drop}
use Rattle.dq_check.specs.Grounds.{joined_count}
use Rattle.dq_check.proofs.joints.joined_count.Given as goal

abbrev pub invariant-loop-joint : goal.invariant-loop-joint
invariant-loop-joint l = record {
  count : joined_count false l.joints ≡ l.count + joined_count l.begun (drop l.joint-index l.joints);
  few : l.count ≤ l.joint-index;
}
