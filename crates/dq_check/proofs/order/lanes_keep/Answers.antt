use Rattle.dq_check.proofs.Placed.{uneven_lanes}
use Rattle.std.proofs.Common.{sym}
use Rattle.dq_check.proofs.order.lanes_keep.Goals as goal

pub returns-then-lanes-told : goal.returns-then-lanes-told
returns-then-lanes-told c = sym (uneven_lanes c.args.journal.now 1 c.args.lanes.now c.args.told.now c.if-lanes-told.true)
