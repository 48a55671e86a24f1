use Rattle.dq_machine.proofs.LostFew.{LostFew-reached}
use Rattle.dq_machine.specs.Machine.{after}
use Rattle.dq_laws.proofs.Goes.{legal_reached}
use Rattle.dq_laws.proofs.losses.losses_are_few.Goals as goal

pub returns : goal.returns
returns c = LostFew-reached c.args.loaded.now (after c.args.loaded.now c.args.journal.now) c.args.lane (legal_reached c.args.loaded.now c.args.journal.now c.requires.legal)
