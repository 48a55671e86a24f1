use Rattle.std.proofs.Common.{sym}
use Rattle.dq_extract.proofs.Columns.{some_columns}
use Rattle.dq_top.proofs.loading.schema_at.Goals as goal

pub returns-clause-columns : goal.returns-clause-columns
returns-clause-columns c = some_columns c.args.schemas.now _ _ c.requires.fits (sym c.in-Some.ensures)
