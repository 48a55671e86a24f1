use Rattle.std.proofs.Common.{◌≡◌, map}
use Rattle.std.specs.Arc.{arc_value}
use Rattle.std.specs.List.{range_with_len}
use Rattle.dq_lane.specs.View.{new_lane}
use Rattle.dq_rehearse.proofs.beginning.new_lanes.Given as goal

abbrev pub invariant-loop-before : goal.invariant-loop-before
invariant-loop-before g l = l.lanes.items ≡ map (new_lane (arc_value l.loaded)) (range_with_len 1 l.before)
