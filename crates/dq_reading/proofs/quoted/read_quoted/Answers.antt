use Rattle.std.proofs.lemmas.Result.{err_from_is_err_and}
use Rattle.dq_reading.proofs.Quotes.{byte_next, byte_breaks, byte_last}
use Rattle.dq_reading.proofs.Readings.{passed_on}
use Rattle.dq_reading.proofs.quoted.read_quoted.Goals as goal

pub returns-in_err-byte : goal.returns-in_err-byte
returns-in_err-byte c = passed_on _ _ _ (err_from_is_err_and c.from_residual.result c.from_residual.ensures.1) c.in_err-byte.ensures (byte_breaks c.loop-left.invariant c.loop-left-test.ensures)

pub loop-left-preserved : goal.loop-left-preserved
loop-left-preserved c = byte_next c.loop-left.invariant c.loop-left-test.ensures c.in_ok-byte.ensures c.in_ok-push.ensures.ok

pub returns : goal.returns
returns c = byte_last c.loop-left.invariant c.loop-left-test.ensures
