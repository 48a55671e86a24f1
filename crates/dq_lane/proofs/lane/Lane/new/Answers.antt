use Rattle.std.specs.Arc.{arc_value}
use Rattle.dq_extract.specs.Loads.{IsLoaded}
use Rattle.dq_lane.specs.Refusals.{AreRefusals}
use Rattle.dq_lane.specs.View.{steps_of}
use Rattle.dq_lane.proofs.Kept.{IsLane-new}
use Rattle.dq_lane.proofs.lane.Lane.new.Goals as goal

pub invariant_of-result : goal.invariant_of-result
invariant_of-result g c =
    let l = arc_value c.args.loaded in
    let loaded : IsLoaded l = rw c.deref-2.ensures at c.script.ensures.loaded in
    let refused : AreRefusals l.script.schemas (steps_of l c.args.number) c.in_ok-results.results =
    rw (c.script.ensures.script, c.deref-2.ensures, c.lane_steps-steps.ensures, c.deref.ensures) at c.in_ok-results.ensures in
    rw (c.of-seen.ensures, c.new.ensures) (IsLane-new l c.args.number c.in_ok-results.results _ _ loaded c.requires.lane refused c.requires.plan)
