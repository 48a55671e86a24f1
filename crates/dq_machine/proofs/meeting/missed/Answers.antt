use Rattle.std.proofs.Common.{◌<◌, ◌≤◌, arith, length}
use Rattle.std.specs.Arc.{arc_value}
use Rattle.dq_machine.specs.Admitting.{missed}
use Rattle.dq_machine.proofs.Misses.{missed_left, missed_right, missed_both}
use Rattle.dq_machine.proofs.Pairs.{pair_more, pair_end}
use Rattle.dq_machine.proofs.meeting.missed.Goals as goal

pub loop-place-preserved : goal.loop-place-preserved
loop-place-preserved c =
    let items = c.as_slice-q-items.result.now in
    let i = c.loop-place.place in
    let x = c.q-item.result in
    let lt : i < length items = omega arith in
    record {
      left = pair_more (missed) (missed_left) (missed_right) (missed_both) arc_value c.args.found.now items i x c.met_at.result _ c.loop-place.misses _ lt c.q-item.is c.met_at.ensures c.loop-place.invariant.left c.in_ok-add_miss.ensures;
      items = c.loop-place.invariant.items;
    }

pub returns : goal.returns
returns c =
    let items = c.as_slice-q-items.result.now in
    let le : length items ≤ c.loop-place.place = omega arith in
    pair_end (missed) (missed_left) (missed_right) (missed_both) arc_value c.args.found.now items c.loop-place.place _ c.loop-place.misses le c.loop-place.invariant.left
