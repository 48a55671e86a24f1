use Rattle.std.proofs.Common.{unwrap_or, option_map, ap, sym, ◌∙◌}
use mathlib.Core.Option.{some}
use Rattle.dq_turn.proofs.Endings.{never_none, last_state}
use Rattle.dq_turn.proofs.seats.Turnstile.close.Goals as goal

pub unreachable-requires : goal.unreachable-requires
unreachable-requires g c = never_none g.S.Chronicled.loaded g.S.Chronicled.journal _ _ _ _ c.args.keeper.role c.requires.all c.close_with-closed.ensures.values.2 (c.take.ensures.value ∙ ap some c.in_default.is)

pub returns-clause-loaded : goal.returns-clause-loaded
returns-clause-loaded g c =
    let loaded = g.S.Chronicled.loaded in
    let end = last_state loaded g.S.Chronicled.journal _ _ _ _ _ c.args.keeper.role c.requires.all c.close_with-closed.ensures.values.2 (c.take.ensures.value ∙ ap some c.in-Some.is) in
    ap (λ o. unwrap_or o (loaded c.in-Some.state)) (sym end.loaded_is ∙ ap (option_map loaded) c.requires.of.1)

pub returns-clause-seen : goal.returns-clause-seen
returns-clause-seen g c =
    (last_state g.S.Chronicled.loaded g.S.Chronicled.journal _ _ _ _ _ c.args.keeper.role c.requires.all c.close_with-closed.ensures.values.2 (c.take.ensures.value ∙ ap some c.in-Some.is)).seen

pub returns-clause-joined : goal.returns-clause-joined
returns-clause-joined g c =
    (last_state g.S.Chronicled.loaded g.S.Chronicled.journal _ _ _ _ _ c.args.keeper.role c.requires.all c.close_with-closed.ensures.values.2 (c.take.ensures.value ∙ ap some c.in-Some.is)).stand

pub returns-clause-others : goal.returns-clause-others
returns-clause-others g c =
    (last_state g.S.Chronicled.loaded g.S.Chronicled.journal _ _ _ _ _ c.args.keeper.role c.requires.all c.close_with-closed.ensures.values.2 (c.take.ensures.value ∙ ap some c.in-Some.is)).others
