use Rattle.std.proofs.Common.{codes, sym, ◌∙◌}
use Rattle.std.proofs.lemmas.Result.{err_from_is_err_and}
use Rattle.dq_parse.proofs.Steps.{step_worded, published_taken, published_none}
use Rattle.dq_parse.proofs.Takings.{takes_passed}
use Rattle.dq_parse.proofs.results.read_done.Goals as goal

pub returns-then-skip : goal.returns-then-skip
returns-then-skip c = step_worded _ _ (codes " refused memory") c.read_refused.result c.if-skip.ensures c.read_refused.ensures

pub returns-then-skip-2 : goal.returns-then-skip-2
returns-then-skip-2 c = step_worded _ _ (codes " admitted ") c.read_admitted.result (sym c.if-skip.ensures.0 ∙ c.if-skip-2.ensures) c.read_admitted.ensures

pub returns-in_err-place : goal.returns-in_err-place
returns-in_err-place c = takes_passed _ _ _ (err_from_is_err_and c.from_residual.result c.from_residual.ensures.1) c.in_err-place.ensures (published_none (c.if-skip-2.ensures.0 ∙ c.if-skip.ensures.0) (record {
  refused = c.if-skip.ensures.1;
  admitted = λ r h. c.if-skip-2.ensures.1 r (c.if-skip.ensures.0 ∙ h);
}))

pub returns : goal.returns
returns c = published_taken (c.if-skip-2.ensures.0 ∙ c.if-skip.ensures.0) (record {
  refused = c.if-skip.ensures.1;
  admitted = λ r h. c.if-skip-2.ensures.1 r (c.if-skip.ensures.0 ∙ h);
}) c.in_ok-place.ensures
