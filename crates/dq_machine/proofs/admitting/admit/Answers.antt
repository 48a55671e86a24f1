use Rattle.std.proofs.Common.{ap, arith, length}
use Rattle.dq_machine.proofs.Misses.{few_groups, few_missed}
use Rattle.dq_machine.proofs.admitting.admit.Goals as goal

pub miss_numbers-requires : goal.miss_numbers-requires
miss_numbers-requires c =
    let same = ap length c.in_ok-groups.ensures.groups in
    let few = few_groups c.in_ok-misses.misses in
    let as_many = ap length c.in_ok-misses.ensures in
    let fewer = few_missed c.in_ok-found.found c.args.queries.now in
    omega (arith, c.requires, same, few, as_many, fewer)
