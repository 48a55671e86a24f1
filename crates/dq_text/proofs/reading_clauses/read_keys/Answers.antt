use Rattle.std.proofs.lemmas.Result.{err_from_is_err_and}
use Rattle.dq_text.proofs.Behind.{key_commas}
use Rattle.dq_text.proofs.Loops.{comma_next, comma_breaks, comma_last}
use Rattle.dq_text.proofs.Readings.{passed_on}
use Rattle.dq_text.proofs.reading_clauses.read_keys.Goals as goal

pub returns-in_err-key : goal.returns-in_err-key
returns-in_err-key c = passed_on _ _ _ (err_from_is_err_and c.from_residual-in_err-key.result c.from_residual-in_err-key.ensures.1) c.in_err-key.ensures (comma_breaks (key_commas 4) c.loop-left.invariant c.loop-left-test.ensures)

pub loop-left-preserved : goal.loop-left-preserved
loop-left-preserved c = comma_next (key_commas 4) c.loop-left.invariant c.loop-left-test.ensures c.in_ok-key.ensures c.in_ok-push-2.ensures.ok

pub returns : goal.returns
returns c = comma_last c.loop-left.invariant c.loop-left-test.ensures
