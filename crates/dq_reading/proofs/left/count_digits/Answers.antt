use Rattle.std.proofs.Common.{sym}
use Rattle.dq_reading.proofs.Fronts.{one_more_digit}
use Rattle.dq_reading.proofs.left.count_digits.Goals as goal

pub loop-place-preserved : goal.loop-place-preserved
loop-place-preserved c = one_more_digit c.args.bytes.now c.loop-place.place c.loop-place-test.true c.loop-place.invariant (sym c.if-not-is_ascii_digit.ensures.value)
