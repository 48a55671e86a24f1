use Rattle.std.proofs.lemmas.Result.{err_from_is_err_and}
use Rattle.dq_text.proofs.Behind.{value_commas}
use Rattle.dq_text.proofs.Loops.{comma_first, comma_none, comma_next, comma_breaks, comma_last}
use Rattle.dq_text.proofs.Readings.{passed_on}
use Rattle.dq_text.proofs.reading_values.read_values.Goals as goal

pub returns-in_err-first : goal.returns-in_err-first
returns-in_err-first c = passed_on _ _ _ (err_from_is_err_and c.from_residual.result c.from_residual.ensures.1) c.in_err-first.ensures (comma_none value_commas)

pub loop-alloc-init : goal.loop-alloc-init
loop-alloc-init c = comma_first value_commas c.in_ok-first.ensures c.new-values.ensures c.in_ok-push.ensures.ok

pub returns-in_err-value : goal.returns-in_err-value
returns-in_err-value c = passed_on _ _ _ (err_from_is_err_and c.from_residual-in_err-value.result c.from_residual-in_err-value.ensures.1) c.in_err-value.ensures (comma_breaks value_commas c.loop-alloc.invariant c.loop-alloc-test.ensures)

pub loop-alloc-preserved : goal.loop-alloc-preserved
loop-alloc-preserved c = comma_next value_commas c.loop-alloc.invariant c.loop-alloc-test.ensures c.in_ok-value.ensures c.in_ok-push-2.ensures.ok

pub returns : goal.returns
returns c = comma_last c.loop-alloc.invariant c.loop-alloc-test.ensures
