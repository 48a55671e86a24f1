use Rattle.std.proofs.Common.{sym, ◌∙◌}
use Rattle.dq_batch.proofs.Loops.{first_here, none_more}
use Rattle.dq_batch.proofs.settling.first_wait.Goals as goal

pub returns-in-Some : goal.returns-in-Some
returns-in-Some c = first_here c.args.fetches.now c.loop-place.place c.in-Some.flight c.loop-place.invariant (sym c.in-Some.ensures)

pub loop-place-preserved : goal.loop-place-preserved
loop-place-preserved c = none_more c.args.fetches.now c.loop-place.place c.loop-place.invariant (sym c.waits_at.ensures ∙ c.in_default.is)
