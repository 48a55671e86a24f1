use Rattle.std.proofs.Common.{sym, ◌∙◌}
use Rattle.dq_script.proofs.Counted.{some-some}
use Rattle.dq_script.proofs.parts.some.Goals as goal

pub returns-else-is_empty : goal.returns-else-is_empty
returns-else-is_empty c = sym (some-some c.args.items.now (sym c.if-is_empty.false ∙ c.is_empty.ensures))
