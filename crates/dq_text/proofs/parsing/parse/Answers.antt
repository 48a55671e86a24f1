use Rattle.std.proofs.Common.{sym, ◌∙◌, true≢false}
use Rattle.std.proofs.lemmas.Result.{err_from_is_err_and}
use Rattle.dq_text.proofs.Parsed.{word_met, source_met, sign_met, stamp_met, stamp_none, filters_met, filters_none, dims_met, dims_none, measures_met, measures_none, order_met, order_none, top_met, top_none, refused_on}
use Rattle.dq_text.proofs.parsing.parse.Goals as goal

pub returns-in_err-stamp : goal.returns-in_err-stamp
returns-in_err-stamp c = refused_on _ _ (err_from_is_err_and c.from_residual-in_err-stamp.result c.from_residual-in_err-stamp.ensures.1) c.in_err-stamp.ensures (stamp_none (sign_met (source_met (word_met (sym c.new-left.ensures ∙ c.if-not-skip.ensures)) c.in_ok-source.ensures) c.if-not-skip-2.ensures))

pub returns-in_err-filters : goal.returns-in_err-filters
returns-in_err-filters c = refused_on _ _ (err_from_is_err_and c.from_residual-in_err-filters.result c.from_residual-in_err-filters.ensures.1) c.in_err-filters.ensures (filters_none (stamp_met (sign_met (source_met (word_met (sym c.new-left.ensures ∙ c.if-not-skip.ensures)) c.in_ok-source.ensures) c.if-not-skip-2.ensures) c.in_ok-stamp.ensures))

pub returns-in_err-dims : goal.returns-in_err-dims
returns-in_err-dims c = refused_on _ _ (err_from_is_err_and c.from_residual-in_err-dims.result c.from_residual-in_err-dims.ensures.1) c.in_err-dims.ensures (dims_none (filters_met (stamp_met (sign_met (source_met (word_met (sym c.new-left.ensures ∙ c.if-not-skip.ensures)) c.in_ok-source.ensures) c.if-not-skip-2.ensures) c.in_ok-stamp.ensures) c.in_ok-filters.ensures))

pub returns-in_err-measures : goal.returns-in_err-measures
returns-in_err-measures c = refused_on _ _ (err_from_is_err_and c.from_residual-in_err-measures.result c.from_residual-in_err-measures.ensures.1) c.in_err-measures.ensures (measures_none (dims_met (filters_met (stamp_met (sign_met (source_met (word_met (sym c.new-left.ensures ∙ c.if-not-skip.ensures)) c.in_ok-source.ensures) c.if-not-skip-2.ensures) c.in_ok-stamp.ensures) c.in_ok-filters.ensures) c.in_ok-dims.ensures))

pub returns-in_err-order : goal.returns-in_err-order
returns-in_err-order c = refused_on _ _ (err_from_is_err_and c.from_residual-in_err-order.result c.from_residual-in_err-order.ensures.1) c.in_err-order.ensures (order_none (measures_met (dims_met (filters_met (stamp_met (sign_met (source_met (word_met (sym c.new-left.ensures ∙ c.if-not-skip.ensures)) c.in_ok-source.ensures) c.if-not-skip-2.ensures) c.in_ok-stamp.ensures) c.in_ok-filters.ensures) c.in_ok-dims.ensures) c.in_ok-measures.ensures))

pub returns-in_err-top : goal.returns-in_err-top
returns-in_err-top c = refused_on _ _ (err_from_is_err_and c.from_residual-in_err-top.result c.from_residual-in_err-top.ensures.1) c.in_err-top.ensures (top_none (order_met (measures_met (dims_met (filters_met (stamp_met (sign_met (source_met (word_met (sym c.new-left.ensures ∙ c.if-not-skip.ensures)) c.in_ok-source.ensures) c.if-not-skip-2.ensures) c.in_ok-stamp.ensures) c.in_ok-filters.ensures) c.in_ok-dims.ensures) c.in_ok-measures.ensures) c.in_ok-order.ensures))

pub returns-then-not-is_empty : goal.returns-then-not-is_empty
returns-then-not-is_empty c = let met = (top_met (order_met (measures_met (dims_met (filters_met (stamp_met (sign_met (source_met (word_met (sym c.new-left.ensures ∙ c.if-not-skip.ensures)) c.in_ok-source.ensures) c.if-not-skip-2.ensures) c.in_ok-stamp.ensures) c.in_ok-filters.ensures) c.in_ok-dims.ensures) c.in_ok-measures.ensures) c.in_ok-order.ensures) c.in_ok-top.ensures) in λ s sized is. true≢false (sym (c.if-not-is_empty.ensures.1 (met.meets s sized is)))
