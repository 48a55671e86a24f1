use Rattle.dq_bring.proofs.Ends.{fail_may, failed}
use Rattle.dq_bring.proofs.telling.fail.Goals as goal

pub fall-requires : goal.fall-requires
fall-requires g c = fail_may _ _ _ _ _ _ c.requires.bringing c.requires.many

pub returns-clause-told : goal.returns-clause-told
returns-clause-told g c = failed _ _ _ _ _ _ c.requires.bringing c.requires.many _ c.fall.ensures.entry
