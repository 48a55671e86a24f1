use Rattle.std.proofs.lemmas.Result.{err_from_is_err_and}
use Rattle.dq_reading.proofs.Readings.{passed_on}
use Rattle.dq_parse.proofs.Meetings.{meet_first, meet_next, meet_breaks, meet_last}
use Rattle.dq_parse.proofs.entries.read_meets.Goals as goal

pub loop-left-init : goal.loop-left-init
loop-left-init c = meet_first c.new-meets.ensures

pub returns-in_err-met : goal.returns-in_err-met
returns-in_err-met c = passed_on _ _ _ (err_from_is_err_and c.from_residual.result c.from_residual.ensures.1) c.in_err-met.ensures (meet_breaks c.loop-left.invariant c.loop-left-test.ensures)

pub loop-left-preserved : goal.loop-left-preserved
loop-left-preserved c = meet_next c.loop-left.invariant c.loop-left-test.ensures c.in_ok-met.ensures c.in_ok-push.ensures.ok

pub returns : goal.returns
returns c = meet_last c.loop-left.invariant c.loop-left-test.ensures
