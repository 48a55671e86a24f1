use Rattle.dq_check.specs.Dues.{joint_in}
use Rattle.dq_check.proofs.FirstWrong.{first_found}
use Rattle.dq_check.proofs.zones.first_unexplained.Goals as goal

pub returns : goal.returns
returns c =
    first_found (joint_in c.args.joints.now) c.args.dues.now c.args.shown.now c.in_ok-wrong.wrong c.requires.leaders c.requires.count c.in_ok-wrong.ensures
