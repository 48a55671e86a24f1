use Rattle.std.proofs.lemmas.Result.{err_from_is_err_and}
use Rattle.std.proofs.Common.{sym, ◌∙◌}
use Rattle.dq_text.proofs.Parts.{between_read, between_none}
use Rattle.dq_text.proofs.Readings.{passed_on}
use Rattle.dq_text.proofs.reading_values.read_test.Goals as goal

pub returns-in_err-low : goal.returns-in_err-low
returns-in_err-low c = passed_on _ _ _ (err_from_is_err_and c.from_residual-in_err-low.result c.from_residual-in_err-low.ensures.1) c.in_err-low.ensures (between_none (sym (c.if-skip-2.ensures.0 ∙ c.if-skip.ensures.0) ∙ c.if-skip-3.ensures))

pub returns-then-skip-3 : goal.returns-then-skip-3
returns-then-skip-3 c = between_read (sym (c.if-skip-2.ensures.0 ∙ c.if-skip.ensures.0) ∙ c.if-skip-3.ensures) c.in_ok-low.ensures
