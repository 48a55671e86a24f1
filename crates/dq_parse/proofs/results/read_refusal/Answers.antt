use Rattle.std.proofs.lemmas.Result.{err_from_is_err_and}
use Rattle.dq_parse.proofs.Outcomes.{refusal_taken, refusal_none}
use Rattle.dq_parse.proofs.Takings.{takes_passed}
use Rattle.dq_parse.proofs.results.read_refusal.Goals as goal

pub returns-in_err-reason : goal.returns-in_err-reason
returns-in_err-reason c = takes_passed _ _ _ (err_from_is_err_and c.from_residual.result c.from_residual.ensures.1) c.in_err-reason.ensures refusal_none

pub returns : goal.returns
returns c = refusal_taken c.in_ok-reason.ensures
