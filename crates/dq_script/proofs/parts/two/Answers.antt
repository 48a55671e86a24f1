use Rattle.std.proofs.Common.{sym}
use Rattle.dq_script.proofs.Counted.{two-none}
use Rattle.dq_script.proofs.parts.two.Goals as goal

pub returns-else-items-eq2 : goal.returns-else-items-eq2
returns-else-items-eq2 c = sym (two-none c.args.items.now c.if-items-eq2.false)
