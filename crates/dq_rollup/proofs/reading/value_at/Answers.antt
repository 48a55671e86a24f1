use Rattle.std.proofs.Common.{ap}
use Rattle.dq_rollup.specs.Reading.{value_of}
use Rattle.dq_base.specs.declared.cell.Cell.TheVariants.{Null}
use Rattle.dq_rollup.proofs.Lists.{absent}
use Rattle.dq_rollup.proofs.reading.value_at.Goals as goal

pub returns-in-None : goal.returns-in-None
returns-in-None c = ap (value_of) (absent c.args.row.now c.args.place Null c.in-None.ensures)
