use Rattle.dq_bring.proofs.Ends.{lands_so}
use Rattle.dq_bring.proofs.telling.land.Goals as goal

pub land-requires : goal.land-requires
land-requires g c =
    let lands = lands_so _ _ _ _ _ _ c.args.answer c.requires.bringing in
    record { may = lands.may; answer = lands.answer; body = lands.body }

pub returns-clause-told : goal.returns-clause-told
returns-clause-told g c =
    let lawful = rw c.land.ensures.loaded at c.journal-journal.ensures.legal in
    (lands_so _ _ _ _ _ _ c.args.answer c.requires.bringing).ends _ _ _ _ lawful c.land.ensures.entry
