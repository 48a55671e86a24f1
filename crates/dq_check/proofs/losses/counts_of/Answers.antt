use Rattle.std.proofs.Common.{◌≡◌, ◌≤◌, ℕ, arith, nat_eq, take, length, get_or}
use Rattle.std.proofs.lemmas.Grind.{common_steps}
use Rattle.std.proofs.lemmas.List.{length-take-le}
use Rattle.std.proofs.lemmas.List.Sums.{count_by_more_yes, count_by_more_no, count_by-le-length}
use Rattle.dq_check.proofs.losses.counts_of.Goals as goal

pub loop-number-preserved : goal.loop-number-preserved
loop-number-preserved c = λ q. grind (arith, common_steps, count_by_more_yes, count_by_more_no, c.loop-number.invariant q)

pub count-requires : goal.count-requires
count-requires c =
    let seen = take c.loop-number.number-index c.args.numbers.now in
    let q = get_or c.args.numbers.now c.loop-number.number-index 0 in
    let few = count_by-le-length (λ n. nat_eq n q) seen in
    let short = length-take-le c.loop-number.number-index c.args.numbers.now (omega arith) in
    record { room = omega (arith, c.loop-number.invariant q, few, short) }
