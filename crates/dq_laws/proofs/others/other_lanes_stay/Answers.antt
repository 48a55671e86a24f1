use Rattle.dq_laws.proofs.Apart.{lane_stays}
use Rattle.dq_laws.proofs.others.other_lanes_stay.Goals as goal

pub returns : goal.returns
returns c =
    let both = lane_stays c.args.loaded.now c.args.journal.now c.args.entry.now c.args.lane c.requires.legal c.requires.lane c.requires.other in
    record { work = both.work; flights = both.flights }
