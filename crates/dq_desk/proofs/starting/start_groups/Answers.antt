use Rattle.std.proofs.Common.{arith}
use Rattle.dq_desk.proofs.Growing.{starts_more}
use Rattle.dq_desk.proofs.starting.start_groups.Goals as goal

pub loop-group-preserved : goal.loop-group-preserved
loop-group-preserved c =
    let groups = c.args.groups.now in
    let i = c.loop-group.group-index in
    let within = rw c.as_slice-group-items.ensures at c.loop-group-test.true in
    let at = rw c.as_slice-group-items.ensures at c.group-item.is in
    record {
      started = starts_more c.args.stamps.now c.args.stands.now c.args.first c.loop-group.number groups c.loop-group.started _ i c.group-item.result c.in_ok-start_group.field-0 within at
          c.loop-group.invariant.number c.loop-group.invariant.started c.in_ok-start_group.ensures c.in_ok-push.ensures.ok;
      number = omega (arith, c.loop-group.invariant.number);
    }
