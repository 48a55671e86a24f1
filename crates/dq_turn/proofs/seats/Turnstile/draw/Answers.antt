use Rattle.std.proofs.Common.{rules}
use Rattle.dq_turn.proofs.TurnSteps.{draws}
use Rattle.dq_turn.proofs.seats.Turnstile.draw.Goals as goal

pub fetch_add-requires : goal.fetch_add-requires
fetch_add-requires g c = (search rules, search rules, draws g.S.Chronicled.loaded g.S.Chronicled.journal _ _ _ c.requires.role c.requires.outside)
