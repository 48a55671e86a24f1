use Rattle.dq_bring.proofs.Ends.{given_fell, given_may}
use Rattle.dq_bring.proofs.telling.fall_given.Goals as goal

pub fall-requires : goal.fall-requires
fall-requires g c = given_may _ _ _ _ _ _ c.requires.bringing

pub returns-clause-told : goal.returns-clause-told
returns-clause-told g c = given_fell _ _ _ _ _ _ c.requires.bringing _ c.fall.ensures.entry
