use Rattle.std.proofs.Common.{◌+◌, ◌++◌, drop}
use Rattle.dq_script.proofs.Tallied.{PlacedSo}
use Rattle.dq_script.specs.Made.{few_pairs}
use Rattle.dq_script.specs.Scripts.{blends_in}
use Rattle.dq_script.proofs.making.put_steps.Given as goal

abbrev pub invariant-loop-place : goal.invariant-loop-place
invariant-loop-place l = PlacedSo (blends_in l.lane) few_pairs (l.fn.blends ++ blends_in l.lane 1 l.pairs) l.made (l.place + 1) (drop l.place l.pairs)
