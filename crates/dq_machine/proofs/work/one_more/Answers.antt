use Rattle.dq_machine.proofs.Lefts.{left_less}
use Rattle.dq_machine.proofs.work.one_more.Goals as goal

pub returns-then-done-len : goal.returns-then-done-len
returns-then-done-len g c = left_less c.args.list.now c.args.done
