use Rattle.dq_laws.proofs.Flying.{running}
use Rattle.dq_laws.proofs.running.own_flights_run.Goals as goal

pub returns : goal.returns
returns c = running c.args.loaded.now c.args.journal.now c.requires.legal
