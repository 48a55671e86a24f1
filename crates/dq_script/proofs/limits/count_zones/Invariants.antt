use Rattle.std.proofs.Common.{drop}
use Rattle.dq_base.specs.Scripts.{zones_count}
use Rattle.dq_script.proofs.Tallied.{TalliedSo}
use Rattle.dq_script.proofs.limits.count_zones.Given as goal

abbrev pub invariant-loop-steps : goal.invariant-loop-steps
invariant-loop-steps l = TalliedSo (zones_count l.lanes) (zones_count (drop l.steps-index l.lanes)) l.total
