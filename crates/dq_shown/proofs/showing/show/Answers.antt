use Rattle.std.proofs.Common.{ap, arith, length, subst}
use Rattle.dq_base.specs.declared.script.Script.{Script}
use Rattle.dq_journal.specs.Shown.{AreLanesShown, joint_at}
use Rattle.dq_shown.proofs.Shows.{lanes_whole}
use Rattle.dq_shown.proofs.showing.show.Goals as goal

pub returns : goal.returns
returns c =
    subst (λ (s : Script). AreLanesShown (joint_at s) 1 c.args.results.now c.loop-place.shown) c.script-script.ensures.script
    (lanes_whole (joint_at c.script-script.result.now) c.args.results.now c.loop-place.place c.loop-place.shown
    (omega (arith, c.loop-place-test.false, ap length c.as_slice-steps-items.ensures)) c.loop-place.invariant)
