use Rattle.std.proofs.Common.{sym}
use Rattle.dq_script.proofs.Counted.{only-none}
use Rattle.dq_script.proofs.parts.only.Goals as goal

pub returns-else-items-eq1 : goal.returns-else-items-eq1
returns-else-items-eq1 c = sym (only-none c.args.items.now c.if-items-eq1.false)
