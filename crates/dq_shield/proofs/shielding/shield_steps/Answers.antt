use Rattle.std.proofs.Common.{map}
use Rattle.dq_shield.specs.Own.{step_with}
use Rattle.dq_shield.proofs.Changed.{next_mapped}
use Rattle.dq_shield.proofs.shielding.shield_steps.Goals as goal

pub loop-place-preserved : goal.loop-place-preserved
loop-place-preserved c = (
  next_mapped (step_with (map (λ s. s.now) c.args.own.now)) c.args.steps.now c.loop-place.steps c.loop-place.place c.item_mut.result.now c.shield_step.new.step
      c.loop-place.invariant.0 c.item_mut.ensures.value c.in_ok-shield_step.ensures,
  c.loop-place.invariant.1,
)
