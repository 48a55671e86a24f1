use Rattle.dq_laws.proofs.Ordered.{numbered}
use Rattle.dq_laws.proofs.numbers.flights_are_numbered.Goals as goal

pub returns : goal.returns
returns c = numbered c.args.loaded.now c.args.journal.now c.requires.legal
