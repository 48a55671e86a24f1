use Rattle.std.proofs.Common.{◌<◌, arith, length}
use Rattle.dq_machine.proofs.Misses.{numbers_more}
use Rattle.dq_machine.proofs.flights.numbers_of.Goals as goal

pub loop-place-preserved : goal.loop-place-preserved
loop-place-preserved c =
    let lt : c.loop-place.place < length c.args.groups.now = omega arith in
    numbers_more c.args.first c.args.groups.now c.loop-place.place _ c.loop-place.numbers _ lt c.loop-place.invariant c.in_ok-push.ensures.ok
