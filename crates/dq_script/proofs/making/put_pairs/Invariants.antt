use Rattle.std.proofs.Common.{◌++◌, drop, map}
use Rattle.std.specs.Prelude.{nat_le}
use Rattle.dq_script.proofs.Tallied.{RestSo}
use Rattle.dq_script.specs.Scripts.{blend_with}
use Rattle.dq_script.proofs.making.put_pairs.Given as goal

abbrev pub invariant-loop-pair : goal.invariant-loop-pair
invariant-loop-pair l = RestSo (blend_with l.lane l.step) (λ p. nat_le p.zone 64) (l.fn.blends ++ map (blend_with l.lane l.step) l.pairs) l.made (drop l.pair-index l.pairs)
