use Rattle.std.proofs.Common.{◌<◌, List, ap, sym, subst, arith, length}
use Rattle.std.specs.List.{AllByRecursion}
use Rattle.dq_base.specs.Batches.{Group}
use Rattle.dq_base.specs.declared.query.Query.{Query}
use Rattle.dq_machine.proofs.Misses.{few_groups, few_missed}
use Rattle.dq_desk.proofs.Sources.{AreWithin, groups_within, missed_within}
use Rattle.dq_desk.proofs.readying.make_ready.Goals as goal

pub miss_numbers-requires : goal.miss_numbers-requires
miss_numbers-requires c =
    let same = ap length c.in_ok-groups.ensures.groups in
    let few = few_groups c.in_ok-misses.misses in
    let as_many = ap length c.in_ok-misses.ensures in
    let fewer = few_missed c.in_ok-will.will c.args.queries.now in
    omega (arith, c.requires.numbers, same, few, as_many, fewer)

pub start_groups-requires-clause-within : goal.start_groups-requires-clause-within
start_groups-requires-clause-within c =
    let most = length c.args.stands.now in
    let G : List Group → Type 0 = λ gs. AllByRecursion (λ (g : Group). g.key.source < most) gs in
    let M : List Query → Type 0 = λ qs. AreWithin most qs in
    subst G (sym c.in_ok-groups.ensures.groups)
    (groups_within most c.in_ok-misses.misses (subst M (sym c.in_ok-misses.ensures) (missed_within most c.in_ok-will.will c.args.queries.now c.requires.within)))

pub start_groups-requires-clause-numbers : goal.start_groups-requires-clause-numbers
start_groups-requires-clause-numbers c =
    let same = ap length c.in_ok-groups.ensures.groups in
    let few = few_groups c.in_ok-misses.misses in
    let as_many = ap length c.in_ok-misses.ensures in
    let fewer = few_missed c.in_ok-will.will c.args.queries.now in
    omega (arith, c.requires.numbers, same, few, as_many, fewer)
