use Rattle.std.proofs.Common.{◌+◌, drop}
use Rattle.dq_script.proofs.Tallied.{PlacedSo}
use Rattle.dq_script.specs.Made.{few_lane}
use Rattle.dq_script.specs.Scripts.{blends_from}
use Rattle.dq_script.proofs.making.make_blends.Given as goal

abbrev pub invariant-loop-place : goal.invariant-loop-place
invariant-loop-place l = PlacedSo blends_from few_lane (blends_from 1 l.pairs) l.made (l.place + 1) (drop l.place l.pairs)
