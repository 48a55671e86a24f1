use Rattle.std.proofs.Common.{sym}
use Rattle.dq_script.proofs.Counted.{three-none}
use Rattle.dq_script.proofs.parts.three.Goals as goal

pub returns-else-items-eq3 : goal.returns-else-items-eq3
returns-else-items-eq3 c = sym (three-none c.args.items.now c.if-items-eq3.false)
