use Rattle.dq_query.proofs.SameAnswer.{same_answer}
use Rattle.dq_query.proofs.form.canonical_has_same_answer.Goals as goal

pub returns : goal.returns
returns c = same_answer
