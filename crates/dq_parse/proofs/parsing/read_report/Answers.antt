use Rattle.std.proofs.Common.{arith, refl, true≢false, sym}
use Rattle.std.proofs.lemmas.Result.{err_from_is_err_and}
use Rattle.dq_parse.proofs.Wholes.{head_refused, body_refused, end_refused, whole_read, refused_on}
use Rattle.dq_parse.proofs.parsing.read_report.Goals as goal

pub returns-in_err-lanes : goal.returns-in_err-lanes
returns-in_err-lanes c = refused_on c.args.bytes.now _ _ (err_from_is_err_and c.from_residual.result c.from_residual.ensures.1) c.in_err-lanes.ensures (head_refused c.args.bytes.now c.new-left.ensures (omega arith))

pub returns-in_err-parsed : goal.returns-in_err-parsed
returns-in_err-parsed c =
    refused_on c.args.bytes.now _ _ (err_from_is_err_and c.from_residual-in_err-parsed.result c.from_residual-in_err-parsed.ensures.1) c.in_err-parsed.ensures (body_refused c.args.bytes.now c.new-left.ensures (omega arith) c.in_ok-lanes.ensures)

pub returns-then-not-is_empty : goal.returns-then-not-is_empty
returns-then-not-is_empty c = end_refused c.args.bytes.now c.new-left.ensures (omega arith) c.in_ok-lanes.ensures c.in_ok-parsed.ensures (λ e. true≢false (sym (c.if-not-is_empty.ensures.1 e)))

pub returns : goal.returns
returns c = whole_read _ _ c.args.bytes.now c.new-left.ensures c.in_ok-lanes.ensures c.in_ok-parsed.ensures (c.if-not-is_empty.ensures.0 refl)
