use Rattle.std.proofs.lemmas.Result.{err_from_is_err_and}
use Rattle.dq_parse.proofs.Steps.{unpublished_taken, unadmitted_taken, unadmitted_none}
use Rattle.dq_parse.proofs.Takings.{takes_passed}
use Rattle.dq_parse.proofs.results.read_refused.Goals as goal

pub returns-then-skip : goal.returns-then-skip
returns-then-skip c = unpublished_taken c.if-skip.ensures

pub returns-in_err-zones : goal.returns-in_err-zones
returns-in_err-zones c = takes_passed _ _ _ (err_from_is_err_and c.from_residual.result c.from_residual.ensures.1) c.in_err-zones.ensures (unadmitted_none c.if-skip.ensures.0 c.if-skip.ensures.1)

pub returns : goal.returns
returns c = unadmitted_taken c.if-skip.ensures.0 c.if-skip.ensures.1 c.in_ok-zones.ensures
