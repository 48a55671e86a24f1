use Rattle.std.proofs.Common.{◌<◌, ◌≤◌, arith, length}
use Rattle.std.specs.Arc.{arc_value}
use Rattle.dq_machine.proofs.Pairs.{pair_more, pair_end}
use Rattle.dq_desk.specs.Plans.{joins_by, stamp_of}
use Rattle.dq_desk.proofs.Growing.{joins_both, joins_left, joins_right}
use Rattle.dq_desk.proofs.planning.plan_joins.Goals as goal

pub loop-place-preserved : goal.loop-place-preserved
loop-place-preserved c =
    let stamp = stamp_of c.args.stamps.now in
    let items = c.as_slice-q-items.result.now in
    let i = c.loop-place.place in
    let x = c.q-item.result in
    let lt : i < length items = omega arith in
    record {
      left = pair_more (joins_by stamp) (joins_left stamp) (joins_right stamp) (joins_both stamp) arc_value c.args.plan.now items i x c.planned_at.result _ c.loop-place.joins.items _ lt c.q-item.is c.planned_at.ensures c.loop-place.invariant.left c.in_ok-add_join.ensures;
      items = c.loop-place.invariant.items;
    }

pub returns : goal.returns
returns c =
    let stamp = stamp_of c.args.stamps.now in
    let items = c.as_slice-q-items.result.now in
    let le : length items ≤ c.loop-place.place = omega arith in
    pair_end (joins_by stamp) (joins_left stamp) (joins_right stamp) (joins_both stamp) arc_value c.args.plan.now items c.loop-place.place _ c.loop-place.joins.items le c.loop-place.invariant.left
