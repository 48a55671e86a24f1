use Rattle.dq_fates.proofs.Ended.{ends_as_told}
use Rattle.dq_fates.proofs.ending.flights_end_as_told.Goals as goal

pub returns : goal.returns
returns c = ends_as_told c.args.loaded.now c.args.journal.now c.args.entry.now c.requires.legal
