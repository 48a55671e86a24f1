use Rattle.std.proofs.Common.{codes, sym, ◌∙◌}
use Rattle.dq_parse.proofs.Outcomes.{back_end_taken, memory_taken, zone_worded, else_answer}
use Rattle.dq_parse.proofs.results.read_outcome.Goals as goal

pub returns-then-skip : goal.returns-then-skip
returns-then-skip c = back_end_taken c.if-skip.ensures

pub returns-then-skip-2 : goal.returns-then-skip-2
returns-then-skip-2 c = memory_taken (sym c.if-skip.ensures.0 ∙ c.if-skip-2.ensures)

pub returns-then-skip-3 : goal.returns-then-skip-3
returns-then-skip-3 c = zone_worded _ _ (codes " invalid ") c.read_refusal.result (sym (c.if-skip-2.ensures.0 ∙ c.if-skip.ensures.0) ∙ c.if-skip-3.ensures) c.read_refusal.ensures

pub returns : goal.returns
returns c = else_answer _ c.read_answer.result (c.if-skip-3.ensures.0 ∙ c.if-skip-2.ensures.0 ∙ c.if-skip.ensures.0) (record {
  back_end = c.if-skip.ensures.1;
  memory = λ r h. c.if-skip-2.ensures.1 r (c.if-skip.ensures.0 ∙ h);
  invalid = λ r h. c.if-skip-3.ensures.1 r (c.if-skip-2.ensures.0 ∙ c.if-skip.ensures.0 ∙ h);
}) c.read_answer.ensures
