use Rattle.std.proofs.Common.{arith}
use Rattle.std.specs.Arc.{arc_value}
use Rattle.dq_batch.proofs.Loops.{till_long, till_more, till_none, till_whole}
use Rattle.dq_batch.proofs.settling.settle.Goals as goal

pub loop-place-init : goal.loop-place-init
loop-place-init c = till_none c.args.flight (arc_value c.args.key.now) c.args.ending.now c.args.fetches.now

pub settle_at-requires : goal.settle_at-requires
settle_at-requires c =
    let long = till_long c.args.flight (arc_value c.args.key.now) c.args.ending.now c.loop-place.place c.args.fetches.now c.loop-place.fetches c.loop-place.invariant in
    omega (arith, long, c.loop-place-test.true, c.len-place-end.ensures)

pub loop-place-preserved : goal.loop-place-preserved
loop-place-preserved c =
    till_more c.args.flight (arc_value c.args.key.now) c.args.ending.now c.loop-place.place c.args.fetches.now c.loop-place.fetches c.settle_at.new.fetches c.loop-place.invariant c.settle_at.ensures

pub returns : goal.returns
returns c =
    till_whole c.args.flight (arc_value c.args.key.now) c.args.ending.now c.loop-place.place c.args.fetches.now c.loop-place.fetches (omega (arith, c.loop-place-test.false, c.len-place-end.ensures))
    c.loop-place.invariant
