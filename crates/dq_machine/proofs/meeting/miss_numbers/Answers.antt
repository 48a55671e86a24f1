use Rattle.std.proofs.Common.{◌<◌, arith, length}
use Rattle.dq_machine.specs.Admitting.{number_in}
use Rattle.dq_machine.proofs.Misses.{numbered_more}
use Rattle.dq_machine.proofs.meeting.miss_numbers.Goals as goal

pub loop-place-preserved : goal.loop-place-preserved
loop-place-preserved c =
    let lt : c.loop-place.place < length c.args.misses.now = omega arith in
    numbered_more (number_in c.args.first c.args.groups.now) c.args.misses.now c.loop-place.place c.group_number.result _ c.loop-place.numbers _ lt c.group_number.ensures c.loop-place.invariant c.in_ok-push.ensures.ok
