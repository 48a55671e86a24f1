use Rattle.std.proofs.lemmas.Result.{err_from_is_err_and}
use Rattle.dq_parse.proofs.Steps.{lane_takes, lane_none}
use Rattle.dq_parse.proofs.Takings.{takes_passed}
use Rattle.dq_parse.proofs.results.read_lane.Goals as goal

pub returns-in_err-read_marked : goal.returns-in_err-read_marked
returns-in_err-read_marked c = takes_passed _ _ _ (err_from_is_err_and c.from_residual.result c.from_residual.ensures.1) c.in_err-read_marked.ensures (lane_none c.args.number)

pub returns : goal.returns
returns c = lane_takes _ c.args.number _ c.read_counted_steps.result c.in_ok-read_marked.ensures c.read_counted_steps.ensures
