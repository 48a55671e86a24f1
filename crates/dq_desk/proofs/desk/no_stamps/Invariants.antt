use Rattle.std.proofs.Common.{◌≡◌, replicate}
use Rattle.dq_desk.proofs.desk.no_stamps.Given as goal

abbrev pub invariant-loop-source : goal.invariant-loop-source
invariant-loop-source l = l.stamps.items ≡ replicate l.source 0
