use Rattle.dq_check.proofs.Placed.{uneven_places}
use Rattle.std.proofs.Common.{sym}
use Rattle.dq_check.proofs.order.tell_places.Goals as goal

pub returns-then-steps-told : goal.returns-then-steps-told
returns-then-steps-told c = sym (uneven_places c.args.journal.now c.args.lane 1 c.args.steps.now c.args.told.now c.if-steps-told.true)
