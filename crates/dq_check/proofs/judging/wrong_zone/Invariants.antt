use Rattle.dq_check.proofs.Judged.{LanesLeft}
use Rattle.dq_check.proofs.judging.wrong_zone.Given as goal

abbrev pub invariant-loop-place : goal.invariant-loop-place
invariant-loop-place l = LanesLeft l.loaded l.journal l.lanes l.told l.place
