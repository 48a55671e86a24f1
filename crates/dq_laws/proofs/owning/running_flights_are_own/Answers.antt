use Rattle.dq_laws.proofs.Owners.{owned}
use Rattle.dq_laws.proofs.owning.running_flights_are_own.Goals as goal

pub returns : goal.returns
returns c = owned c.args.loaded.now c.args.journal.now c.requires.legal
