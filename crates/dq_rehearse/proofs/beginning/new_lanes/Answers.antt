use Rattle.std.proofs.Common.{◌≡◌, length, map, ap, ◌∙◌, arith}
use Rattle.std.specs.Arc.{arc_value}
use Rattle.std.specs.List.{range_with_len}
use Rattle.dq_lane.specs.View.{new_lane}
use Rattle.dq_rehearse.proofs.New.{lane_next}
use Rattle.dq_rehearse.proofs.beginning.new_lanes.Goals as goal

pub begin-requires : goal.begin-requires
begin-requires g c =
    let count : c.len-count.result ≡ length (arc_value c.args.loaded.now).script.lanes = rw (c.script.ensures.script, c.deref.ensures) at c.len-count.ensures in
    lane_next (length (arc_value c.args.loaded.now).script.lanes) c.loop-before.before c.len-count.result count c.loop-before-test.true

pub returns : goal.returns
returns g c =
    let count : c.len-count.result ≡ length (arc_value c.args.loaded.now).script.lanes = rw (c.script.ensures.script, c.deref.ensures) at c.len-count.ensures in
    let all : c.loop-before.before ≡ c.len-count.result = omega (arith, c.loop-before-test.false, c.loop-before.far-before) in
    c.loop-before.invariant ∙ ap (λ n. map (new_lane (arc_value c.args.loaded.now)) (range_with_len 1 n)) (all ∙ count)
