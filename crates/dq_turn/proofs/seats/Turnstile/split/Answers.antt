use Rattle.std.proofs.Common.{rules}
use Rattle.dq_turn.proofs.LaneSteps.{hands}
use Rattle.dq_turn.proofs.seats.Turnstile.split.Goals as goal

pub split_seat-seat-requires : goal.split_seat-seat-requires
split_seat-seat-requires g c = (search rules, search rules, hands g.S.Chronicled.loaded g.S.Chronicled.journal _ _ c.args.keeper.now.role c.requires.few)
