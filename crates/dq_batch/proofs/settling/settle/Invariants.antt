use Rattle.std.specs.Arc.{arc_value}
use Rattle.dq_batch.proofs.Loops.{SettlesTill}
use Rattle.dq_batch.proofs.settling.settle.Given as goal

abbrev pub invariant-loop-place : goal.invariant-loop-place
invariant-loop-place l = SettlesTill l.flight (arc_value l.key) l.ending l.place l.fn.fetches l.fetches
