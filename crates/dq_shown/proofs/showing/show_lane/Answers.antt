use Rattle.dq_journal.specs.Shown.{joint_at}
use Rattle.dq_shown.proofs.Shows.{steps_whole}
use Rattle.dq_shown.proofs.showing.show_lane.Goals as goal

pub returns : goal.returns
returns c = steps_whole (joint_at c.args.script.now c.args.lane) c.args.steps.now c.loop-place.place c.loop-place.shown c.loop-place-test.false c.loop-place.invariant
