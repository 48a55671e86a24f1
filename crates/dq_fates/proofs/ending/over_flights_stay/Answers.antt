use Rattle.dq_fates.proofs.Ended.{fate_stays, over_stays}
use Rattle.dq_fates.proofs.ending.over_flights_stay.Goals as goal

pub returns : goal.returns
returns c = record {
  over = over_stays c.args.loaded.now c.args.flight c.args.journal.now c.args.more.now c.requires.over c.requires.legal;
  fate = fate_stays c.args.loaded.now c.args.flight c.args.journal.now c.args.more.now c.requires.over c.requires.legal;
}
