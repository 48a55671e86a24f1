use Rattle.dq_bring.proofs.Gives.{gives_back}
use Rattle.dq_bring.proofs.telling.give.Goals as goal

pub give-requires : goal.give-requires
give-requires g c =
    let back = gives_back _ _ _ _ _ _ c.args.link c.args.ran c.args.answer c.requires.bringing in
    record { may = back.may; named = back.named; mirror = back.mirror; text = back.text; planned = back.planned }

pub returns-clause-told : goal.returns-clause-told
returns-clause-told g c = (gives_back _ _ _ _ _ _ c.args.link c.args.ran c.args.answer c.requires.bringing).goes _ _ c.give.ensures.entry c.given.ensures
