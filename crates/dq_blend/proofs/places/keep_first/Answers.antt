use Rattle.std.proofs.Common.{sym, ◌∙◌}
use Rattle.dq_blend.proofs.Entered.{entered, there}
use Rattle.dq_blend.proofs.places.keep_first.Goals as goal

pub returns-then-contains_key : goal.returns-then-contains_key
returns-then-contains_key c = λ q. there q c.args.key c.args.place c.args.places.now.entries (sym c.contains_key.ensures ∙ c.if-contains_key.true)

pub returns : goal.returns
returns c = λ q.
    entered q c.args.key c.args.place c.args.places.now.entries _ (sym c.contains_key.ensures ∙ c.if-contains_key.false) (c.in_ok-insert.ensures.updates.0 q)
