use Rattle.std.proofs.Common.{◌-◌}
use Rattle.dq_fates.proofs.Gave.{gave_few}
use Rattle.dq_fates.proofs.under_way.given_flights_lost_few.Goals as goal

pub returns : goal.returns
returns c = gave_few c.args.loaded.now c.args.journal.now c.requires.legal (c.args.lane - 1)
