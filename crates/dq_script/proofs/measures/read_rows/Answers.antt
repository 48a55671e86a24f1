use Rattle.std.proofs.Common.{sym, ◌∙◌, ap}
use Rattle.dq_script.specs.Readings.{given}
use Rattle.dq_script.proofs.Counted.{rows_of-none}
use Rattle.dq_script.proofs.measures.read_rows.Goals as goal

pub returns-else-is_empty : goal.returns-else-is_empty
returns-else-is_empty c = rw c.here.ensures (ap given (rows_of-none c.args.rest.now (sym c.if-is_empty.false ∙ c.is_empty.ensures)))
