use Rattle.std.proofs.lemmas.Result.{err_from_is_err_and}
use Rattle.std.proofs.Common.{sym, ◌∙◌}
use Rattle.dq_reading.proofs.Readings.{passed_on}
use Rattle.dq_parse.proofs.Rows.{null_read, word_read, word_none}
use Rattle.dq_parse.proofs.cells.read_cell.Goals as goal

pub returns-then-skip : goal.returns-then-skip
returns-then-skip c = null_read c.if-skip.ensures

pub returns-in_err-text : goal.returns-in_err-text
returns-in_err-text c = passed_on _ _ _ (err_from_is_err_and c.from_residual.result c.from_residual.ensures.1) c.in_err-text.ensures (word_none (sym c.if-skip.ensures.0 ∙ c.if-skip-2.ensures))

pub returns-then-skip-2 : goal.returns-then-skip-2
returns-then-skip-2 c = word_read (sym c.if-skip.ensures.0 ∙ c.if-skip-2.ensures) c.in_ok-text.ensures
