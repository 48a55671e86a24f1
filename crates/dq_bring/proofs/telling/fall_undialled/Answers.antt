use Rattle.dq_bring.proofs.Ends.{undialled_fell, undialled_may}
use Rattle.dq_bring.proofs.telling.fall_undialled.Goals as goal

pub fall-requires : goal.fall-requires
fall-requires g c = undialled_may _ _ _ _ _ _ c.requires.bringing

pub returns-clause-told : goal.returns-clause-told
returns-clause-told g c = undialled_fell _ _ _ _ _ _ c.requires.bringing _ c.fall.ensures.entry
