use Rattle.std.proofs.Common.{length, ap, sym, ◌∙◌}
use Rattle.dq_journal.specs.Shown.{joint_at}
use Rattle.dq_check.proofs.Joined.{long_joints}
use Rattle.dq_check.proofs.steps.wrong_of_zones.Goals as goal

pub wrong_among-requires-clause-count : goal.wrong_among-requires-clause-count
wrong_among-requires-clause-count c =
    c.requires.count ∙ sym (long_joints (joint_at c.args.script.now c.args.lane c.args.step) 1 c.args.zones.now)
    ∙ ap length (sym c.in_ok-joints.ensures ∙ sym c.as_slice.ensures.value)
