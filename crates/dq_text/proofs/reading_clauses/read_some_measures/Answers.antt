use Rattle.std.proofs.lemmas.Result.{err_from_is_err_and}
use Rattle.dq_text.proofs.Behind.{clause_commas}
use Rattle.dq_text.proofs.Loops.{comma_first, comma_none, comma_next, comma_breaks, comma_last}
use Rattle.dq_text.proofs.Readings.{passed_on}
use Rattle.dq_text.proofs.reading_clauses.read_some_measures.Goals as goal

pub returns-in_err-first : goal.returns-in_err-first
returns-in_err-first c = passed_on _ _ _ (err_from_is_err_and c.from_residual.result c.from_residual.ensures.1) c.in_err-first.ensures (comma_none (clause_commas 3))

pub loop-left-init : goal.loop-left-init
loop-left-init c = comma_first (clause_commas 3) c.in_ok-first.ensures c.new-measures.ensures c.in_ok-push.ensures.ok

pub returns-in_err-measure : goal.returns-in_err-measure
returns-in_err-measure c = passed_on _ _ _ (err_from_is_err_and c.from_residual-in_err-measure.result c.from_residual-in_err-measure.ensures.1) c.in_err-measure.ensures (comma_breaks (clause_commas 3) c.loop-left.invariant c.loop-left-test.ensures)

pub loop-left-preserved : goal.loop-left-preserved
loop-left-preserved c = comma_next (clause_commas 3) c.loop-left.invariant c.loop-left-test.ensures c.in_ok-measure.ensures c.in_ok-push-2.ensures.ok

pub returns : goal.returns
returns c = comma_last c.loop-left.invariant c.loop-left-test.ensures
