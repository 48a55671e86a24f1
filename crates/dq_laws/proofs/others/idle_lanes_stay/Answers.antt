use Rattle.dq_laws.proofs.Apart.{idle_stays}
use Rattle.dq_laws.proofs.others.idle_lanes_stay.Goals as goal

pub returns : goal.returns
returns c =
    let both = idle_stays c.args.loaded.now c.args.journal.now c.args.more.now c.args.lane c.requires.legal c.requires.lane c.requires.idle in
    record { work = both.work; flights = both.flights }
