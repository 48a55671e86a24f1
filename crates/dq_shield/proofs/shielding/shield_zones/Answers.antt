use Rattle.std.proofs.Common.{map}
use Rattle.dq_shield.specs.Own.{zone_with}
use Rattle.dq_shield.proofs.Changed.{next_mapped}
use Rattle.dq_shield.proofs.shielding.shield_zones.Goals as goal

pub loop-place-preserved : goal.loop-place-preserved
loop-place-preserved c = (
  next_mapped (zone_with (map (λ s. s.now) c.args.own.now)) c.args.zones.now c.loop-place.zones c.loop-place.place c.item_mut.result.now c.shield_zone.new.zone
      c.loop-place.invariant.0 c.item_mut.ensures.value c.in_ok-shield_zone.ensures,
  c.loop-place.invariant.1,
)
