use Rattle.std.proofs.Common.{◌∙◌, ap}
use Rattle.dq_base.specs.Answers.{answer}
use Rattle.dq_query.proofs.SameAnswer.{same_answer}
use Rattle.dq_machine.specs.Publishing.{rows_at}
use Rattle.dq_check.proofs.owing.answer_at.Goals as goal

pub returns : goal.returns
returns c =
    let rows = rows_at c.args.machine.now.state.versions c.args.stamp in
    c.in_ok-owner.ensures.ok ∙ c.in_ok-table.ensures ∙ ap (λ k. answer k rows) c.in_ok-key.ensures ∙ same_answer c.args.q.now rows
