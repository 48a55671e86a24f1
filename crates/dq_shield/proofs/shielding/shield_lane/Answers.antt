use Rattle.std.proofs.Common.{map}
use Rattle.dq_shield.proofs.Lanes.{own_steps}
use Rattle.dq_shield.proofs.shielding.shield_lane.Goals as goal

pub returns : goal.returns
returns c =
    own_steps c.args.sessions.now (map (λ s. s.now) c.as_slice.result.now) c.args.lane c.args.steps.now c.shield_steps.new.steps
    (rw c.as_slice.ensures.value c.in_ok-own.ensures) c.in_ok-shield_steps.ensures
