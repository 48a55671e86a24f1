use Rattle.std.proofs.Common.{◌≡◌, map, take}
use Rattle.std.specs.Arc.{arc_value}
use Rattle.dq_base.specs.Batches.{Group}
use Rattle.dq_desk.proofs.starting.keys_of.Given as goal

abbrev pub invariant-loop-group : goal.invariant-loop-group
invariant-loop-group l = map arc_value l.keys.items ≡ map (λ (g : Group). g.key) (take l.group-index l.groups)
