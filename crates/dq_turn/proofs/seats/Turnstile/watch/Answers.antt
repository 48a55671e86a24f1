use Rattle.std.proofs.Common.{rules}
use Rattle.dq_turn.proofs.TurnSteps.{watches}
use Rattle.dq_turn.proofs.seats.Turnstile.watch.Goals as goal

pub load-now-requires : goal.load-now-requires
load-now-requires g c = (search rules, search rules, watches g.S.Chronicled.loaded g.S.Chronicled.journal _ _ _ c.requires.ticket.0 (search rules) (search rules))
