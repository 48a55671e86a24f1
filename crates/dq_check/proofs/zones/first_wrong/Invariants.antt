use Rattle.std.proofs.Common.{◌≡◌, [], drop}
use Rattle.dq_check.specs.Dues.{joint_in}
use Rattle.dq_check.specs.Forcing as forcing
use Rattle.dq_check.proofs.zones.first_wrong.Given as goal

abbrev pub invariant-loop-place : goal.invariant-loop-place
invariant-loop-place l =
    forcing.first_wrong (joint_in l.joints) l.dues [] 0 l.shown ≡ forcing.first_wrong (joint_in l.joints) l.dues l.forced l.place (drop l.place l.shown)
