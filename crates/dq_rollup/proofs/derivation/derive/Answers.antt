use Rattle.std.proofs.Common.{sym, ap, ◌∙◌, not}
use Rattle.std.specs.Option.{is_some}
use Rattle.dq_base.specs.Answers.{answer}
use Rattle.dq_base.specs.declared.query.Query.{Query}
use Rattle.dq_rollup.proofs.Deriving.{whole_answer}
use Rattle.dq_rollup.proofs.derivation.derive.Goals as goal

pub returns-then-is_some : goal.returns-then-is_some
returns-then-is_some c rows e = c.in_ok-copy.ensures ∙ e ∙ ap (λ q. answer q rows) (whole_answer c.args.p.now c.args.q.now c.requires
    (ap not (ap (λ (x : Query). is_some x.top) (sym c.query.ensures.same) ∙ sym c.is_some.ensures ∙ c.if-is_some.true)))
