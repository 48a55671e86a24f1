use Rattle.std.proofs.Common.{◌+◌, drop}
use Rattle.std.specs.Prelude.{sum_by}
use Rattle.dq_base.specs.Scripts.{zones_in}
use Rattle.dq_script.proofs.Tallied.{TalliedSo}
use Rattle.dq_script.proofs.limits.add_steps.Given as goal

abbrev pub invariant-loop-step : goal.invariant-loop-step
invariant-loop-step l = TalliedSo (l.fn.count + sum_by zones_in l.steps) (sum_by zones_in (drop l.step-index l.steps)) l.total
