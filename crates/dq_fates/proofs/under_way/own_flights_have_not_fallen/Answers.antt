use Rattle.dq_fates.proofs.Fell.{own_unfallen_all}
use Rattle.dq_fates.proofs.under_way.own_flights_have_not_fallen.Goals as goal

pub returns : goal.returns
returns c = own_unfallen_all c.args.loaded.now c.args.journal.now c.args.lane c.requires.legal
