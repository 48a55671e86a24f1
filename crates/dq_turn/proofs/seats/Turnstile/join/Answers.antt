use Rattle.std.proofs.Common.{rules, ap, ◌∙◌}
use Rattle.dq_turn.specs.Views.{held_at}
use Rattle.dq_turn.proofs.LaneSteps.{takes_in, hears, heard_both}
use Rattle.dq_turn.proofs.TurnSteps.{is_outside}
use Rattle.dq_turn.proofs.seats.Turnstile.join.Goals as goal

pub join_seat-requires : goal.join_seat-requires
join_seat-requires g c =
    let out = is_outside _ c.requires.outside c.args.seat.idle in
    (search rules, search rules, c.args.seat.held ∙ ap held_at out, search rules, takes_in g.S.Chronicled.loaded g.S.Chronicled.journal _ _ _ _ c.args.keeper.now.role c.args.seat.role out)

pub load-requires : goal.load-requires
load-requires g c = (search rules, search rules, hears g.S.Chronicled.loaded g.S.Chronicled.journal _ _ _ _ (search rules))

pub returns-clause-seen : goal.returns-clause-seen
returns-clause-seen g c = heard_both g.S.Chronicled.loaded g.S.Chronicled.journal c.args.keeper.now.seat.me.0 c.args.seat.seat.me.0 c.join_seat.new.seat.me c.load.new.seat.me (ap (λ m. m.0) c.join_seat.ensures.2) c.load.ensures.2
