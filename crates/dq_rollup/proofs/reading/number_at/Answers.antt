use Rattle.std.proofs.Common.{ap}
use Rattle.dq_rollup.specs.Reading.{number_in}
use Rattle.dq_base.specs.declared.cell.Cell.TheVariants.{Null}
use Rattle.dq_rollup.proofs.Lists.{absent}
use Rattle.dq_rollup.proofs.reading.number_at.Goals as goal

pub returns-in-None : goal.returns-in-None
returns-in-None c = ap (number_in) (absent c.args.row.now c.args.place Null c.in-None.ensures)
