use Rattle.std.proofs.Common.{arith}
use Rattle.dq_bring.proofs.Gives.{loses_so}
use Rattle.dq_bring.proofs.telling.lose.Goals as goal

pub lose-requires : goal.lose-requires
lose-requires g c =
    let losing = loses_so _ _ _ _ _ _ c.args.number c.args.lost c.requires.bringing in
    record { may = losing.may; lost = losing.lost }

pub overflow_add-result : goal.overflow_add-result
overflow_add-result g c = let few = (loses_so _ _ _ _ _ _ c.args.number c.args.lost c.requires.bringing).few in omega (arith, few)

pub returns-clause-told : goal.returns-clause-told
returns-clause-told g c = (loses_so _ _ _ _ _ _ c.args.number c.args.lost c.requires.bringing).goes _ c.lose.ensures.entry
