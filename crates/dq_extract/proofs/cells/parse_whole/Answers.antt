use Rattle.std.proofs.Common.{sym}
use Rattle.dq_extract.proofs.Numbers.{no_number}
use Rattle.dq_extract.proofs.cells.parse_whole.Goals as goal

pub returns-in-Err : goal.returns-in-Err
returns-in-Err c = sym (no_number c.args.bytes.now c.in-Err.ensures.cases.0)
