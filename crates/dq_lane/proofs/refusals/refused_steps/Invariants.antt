use Rattle.std.proofs.Common.{take}
use Rattle.dq_lane.specs.Refusals.{AreRefusals}
use Rattle.dq_lane.proofs.refusals.refused_steps.Given as goal

abbrev pub invariant-loop-step : goal.invariant-loop-step
invariant-loop-step l = AreRefusals l.schemas (take l.step-index l.steps) l.results
