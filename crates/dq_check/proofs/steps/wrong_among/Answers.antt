use Rattle.std.proofs.Common.{sym, ◌∙◌}
use Rattle.dq_check.proofs.Joined.{joined_due}
use Rattle.dq_check.proofs.steps.wrong_among.Goals as goal

pub first_unexplained-requires-clause-count : goal.first_unexplained-requires-clause-count
first_unexplained-requires-clause-count c =
    joined_due c.args.joints.now c.args.dues.now c.requires.count ∙ sym c.joined_count.ensures ∙ sym c.if-shown-joined_count.false
