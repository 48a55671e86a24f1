use Rattle.std.proofs.lemmas.Result.{err_from_is_err_and}
use Rattle.dq_text.proofs.Behind.{filter_next, filter_breaks, filter_last}
use Rattle.dq_text.proofs.Readings.{passed_on}
use Rattle.dq_text.proofs.reading_clauses.read_filters.Goals as goal

pub returns-in_err-predicate : goal.returns-in_err-predicate
returns-in_err-predicate c = passed_on _ _ _ (err_from_is_err_and c.from_residual.result c.from_residual.ensures.1) c.in_err-predicate.ensures (filter_breaks c.loop-alloc.invariant c.loop-alloc-test.ensures)

pub loop-alloc-preserved : goal.loop-alloc-preserved
loop-alloc-preserved c = filter_next c.loop-alloc.invariant c.loop-alloc-test.ensures c.in_ok-predicate.ensures c.in_ok-push.ensures.ok

pub returns : goal.returns
returns c = filter_last c.loop-alloc.invariant c.loop-alloc-test.ensures
