use Rattle.dq_laws.proofs.Stays.{rows_stay}
use Rattle.dq_laws.proofs.stamps.published_rows_stay.Goals as goal

pub returns : goal.returns
returns c = rows_stay c.args.loaded.now c.args.journal.now c.args.more.now c.args.stamp c.requires
