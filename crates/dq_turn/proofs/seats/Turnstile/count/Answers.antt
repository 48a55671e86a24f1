use Rattle.std.proofs.Common.{rules}
use Rattle.dq_turn.proofs.TurnSteps.{counts}
use Rattle.dq_turn.proofs.seats.Turnstile.count.Goals as goal

pub fetch_add-requires : goal.fetch_add-requires
fetch_add-requires g c =
    (search rules, search rules, counts g.S.Chronicled.loaded g.S.Chronicled.journal _ _ _ _ _ _ _ c.requires.role c.requires.turn c.requires.home c.requires.loaded c.requires.grows c.requires.added c.requires.room)
