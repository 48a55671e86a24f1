use Rattle.std.proofs.Common.{◌<◌, ◌≤◌, arith, length}
use Rattle.std.specs.Arc.{arc_value}
use Rattle.dq_machine.specs.Preparing.{remote_among}
use Rattle.dq_machine.proofs.Misses.{remote_left, remote_right, remote_both}
use Rattle.dq_machine.proofs.Pairs.{pair_more, pair_end}
use Rattle.dq_machine.proofs.preparing.remote_among.Goals as goal

pub loop-place-preserved : goal.loop-place-preserved
loop-place-preserved c =
    let items = c.as_slice-q-items.result.now in
    let i = c.loop-place.place in
    let x = c.q-item.result in
    let lt : i < length items = omega arith in
    record {
      left = pair_more (remote_among) (remote_left) (remote_right) (remote_both) arc_value c.args.roles.now items i x c.role_at.result _ c.loop-place.remotes _ lt c.q-item.is c.role_at.ensures c.loop-place.invariant.left c.in_ok-add_remote.ensures;
      items = c.loop-place.invariant.items;
    }

pub returns : goal.returns
returns c =
    let items = c.as_slice-q-items.result.now in
    let le : length items ≤ c.loop-place.place = omega arith in
    pair_end (remote_among) (remote_left) (remote_right) (remote_both) arc_value c.args.roles.now items c.loop-place.place _ c.loop-place.remotes le c.loop-place.invariant.left
