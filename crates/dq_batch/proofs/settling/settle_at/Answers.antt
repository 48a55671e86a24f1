use Rattle.std.proofs.Common.{sym, ◌∙◌}
use Rattle.std.specs.Arc.{arc_value}
use Rattle.dq_batch.proofs.Loops.{settles_not, settles_set}
use Rattle.dq_batch.proofs.settling.settle_at.Goals as goal

pub returns-then-flies : goal.returns-then-flies
returns-then-flies c =
    settles_set c.args.flight (arc_value c.args.key.now) c.args.ending.now c.args.fetches.now c.args.place c.in-Some.fetch.now c.brought.result (sym c.in-Some.ensures) (sym c.flies.ensures ∙ c.if-flies.true)
    c.brought.ensures

pub returns-else-flies : goal.returns-else-flies
returns-else-flies c =
    settles_not c.args.flight (arc_value c.args.key.now) c.args.ending.now c.args.fetches.now c.args.place c.in-Some.fetch.now (sym c.in-Some.ensures) (sym c.flies.ensures ∙ c.if-flies.false)
