use Rattle.dq_laws.proofs.Ordered.{few}
use Rattle.dq_laws.proofs.numbers.flights_are_few.Goals as goal

pub returns : goal.returns
returns c = few c.args.loaded.now c.args.journal.now c.script-script.ensures.loaded c.requires.legal
