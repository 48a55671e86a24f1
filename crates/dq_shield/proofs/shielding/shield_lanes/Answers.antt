use Rattle.std.proofs.Common.{arith}
use Rattle.dq_shield.proofs.Changed.{lane_there, next_lane}
use Rattle.dq_shield.proofs.shielding.shield_lanes.Goals as goal

pub item_mut-requires : goal.item_mut-requires
item_mut-requires c = lane_there c.args.sessions.now c.args.lanes.now c.loop-place.lanes c.loop-place.place c.loop-place.invariant.0 (omega arith)

pub loop-place-preserved : goal.loop-place-preserved
loop-place-preserved c = (
  next_lane c.args.sessions.now c.args.lanes.now c.loop-place.lanes c.loop-place.place c.item_mut.result.now c.shield_lane.new.steps c.loop-place.invariant.0 c.item_mut.ensures.value c.in_ok-shield_lane.ensures,
  c.loop-place.invariant.1,
)
