use Rattle.std.proofs.lemmas.Result.{err_from_is_err_and}
use Rattle.dq_parse.proofs.Steps.{admitted_taken, admitted_first, admitted_second}
use Rattle.dq_parse.proofs.Takings.{takes_passed}
use Rattle.dq_parse.proofs.results.read_admitted.Goals as goal

pub returns-in_err-place : goal.returns-in_err-place
returns-in_err-place c = takes_passed _ _ _ (err_from_is_err_and c.from_residual.result c.from_residual.ensures.1) c.in_err-place.ensures admitted_first

pub returns-in_err-zones : goal.returns-in_err-zones
returns-in_err-zones c = takes_passed _ _ _ (err_from_is_err_and c.from_residual-in_err-zones.result c.from_residual-in_err-zones.ensures.1) c.in_err-zones.ensures (admitted_second c.in_ok-place.ensures)

pub returns : goal.returns
returns c = admitted_taken c.in_ok-place.ensures c.in_ok-zones.ensures
