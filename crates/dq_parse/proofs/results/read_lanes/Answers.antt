use Rattle.std.proofs.Common.{arith}
use Rattle.std.proofs.lemmas.Result.{err_from_is_err_and}
use Rattle.dq_parse.proofs.Counted.{begins, goes_on, breaks_off, ends}
use Rattle.dq_parse.proofs.Steps.{lanes_list}
use Rattle.dq_parse.proofs.Takings.{takes_passed}
use Rattle.dq_parse.proofs.results.read_lanes.Goals as goal

pub loop-before-init : goal.loop-before-init
loop-before-init c = begins c.args.count c.args.left.now _ lanes_list c.new-lanes.ensures

pub returns-in_err-lane : goal.returns-in_err-lane
returns-in_err-lane c = takes_passed _ _ _ (err_from_is_err_and c.from_residual.result c.from_residual.ensures.1) c.in_err-lane.ensures (breaks_off lanes_list c.loop-before-test.true c.loop-before.invariant)

pub loop-before-preserved : goal.loop-before-preserved
loop-before-preserved c = goes_on lanes_list c.loop-before-test.true c.loop-before.invariant c.in_ok-lane.ensures c.in_ok-push.ensures.ok

pub returns : goal.returns
returns c = ends lanes_list (omega arith) c.loop-before.invariant
