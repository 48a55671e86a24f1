use Rattle.dq_fates.proofs.Rows.{stand_stays}
use Rattle.dq_fates.proofs.standing.later_rows_stand.Goals as goal

pub returns : goal.returns
returns c = stand_stays c.args.loaded.now c.args.journal.now c.args.more.now c.args.place c.args.source c.requires
