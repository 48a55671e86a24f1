use Rattle.dq_laws.proofs.Losing.{losses_few}
use Rattle.dq_laws.proofs.losses.flights_lose_few.Goals as goal

pub returns : goal.returns
returns c = losses_few c.args.loaded.now c.args.journal.now c.args.flight c.requires.legal
