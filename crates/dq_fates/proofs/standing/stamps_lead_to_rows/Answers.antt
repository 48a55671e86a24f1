use Rattle.dq_fates.proofs.Rows.{rows_since}
use Rattle.dq_fates.proofs.standing.stamps_lead_to_rows.Goals as goal

pub returns : goal.returns
returns c = rows_since c.args.loaded.now c.args.journal.now c.args.place c.args.source
