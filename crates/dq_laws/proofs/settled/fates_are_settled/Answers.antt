use Rattle.dq_laws.proofs.Over.{losses_stay, falls_stay, fate_stays}
use Rattle.dq_laws.proofs.settled.fates_are_settled.Goals as goal

pub returns : goal.returns
returns c = record {
  losses = losses_stay c.args.loaded.now c.args.journal.now c.args.more.now c.args.flight c.requires.legal c.requires.over;
  falls = falls_stay c.args.loaded.now c.args.journal.now c.args.more.now c.args.flight c.requires.legal c.requires.over;
  fate = fate_stays c.args.loaded.now c.args.journal.now c.args.more.now c.args.flight c.requires.legal c.requires.over;
}
