use Rattle.dq_fates.proofs.Ended.{ends_over}
use Rattle.dq_fates.proofs.ending.ended_flights_are_over.Goals as goal

pub returns : goal.returns
returns c = ends_over c.args.loaded.now c.args.journal.now c.args.entry.now c.requires.legal
