use Rattle.std.proofs.Common.{sym}
use Rattle.dq_machine.proofs.Lefts.{left_none, left_some}
use Rattle.dq_machine.proofs.work.first_left.Goals as goal

pub returns-in_default : goal.returns-in_default
returns-in_default g c = left_none c.args.list.now c.args.done (sym c.in_default.ensures)

pub returns : goal.returns
returns g c = left_some c.args.list.now c.args.done _ (sym c.in-Some.ensures)
