use Rattle.dq_fold.specs.Tallies.{added}
use Rattle.dq_fold.proofs.Tallied.{set_next}
use Rattle.dq_fold.proofs.groups.add_to.Goals as goal
use Rattle.std.proofs.Common.{◌<◌, length, arith}

pub loop-place-preserved : goal.loop-place-preserved
loop-place-preserved c =
    let short : c.loop-place.place < length c.args.tallies.now = omega arith in
    (set_next (added c.args.row.now) c.args.tallies.now c.loop-place.tallies c.loop-place.place c.item_mut.result.now c.add.new.self short c.loop-place.invariant.0 c.item_mut.ensures.value c.in_ok-add.ensures, c.loop-place.invariant.1)
