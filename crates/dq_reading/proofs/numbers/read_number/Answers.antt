use Rattle.std.proofs.Common.{arith}
use Rattle.dq_reading.proofs.Numerals.{number_read, number_none, number_above}
use Rattle.dq_reading.proofs.numbers.read_number.Goals as goal

pub returns-then-number-limit : goal.returns-then-number-limit
returns-then-number-limit c =
    number_read c.args.limit c.args.left.now _ _ _ c.take_digits-digits.ensures c.in-Some.ensures c.if-number-limit.true (omega arith)

pub returns-else-number-limit : goal.returns-else-number-limit
returns-else-number-limit c =
    number_above c.args.limit c.args.left.now _ _ _ c.take_digits-digits.ensures c.in-Some.ensures c.if-number-limit.false (omega arith)

pub returns-in-None : goal.returns-in-None
returns-in-None c =
    number_none c.args.limit c.args.left.now _ _ c.take_digits-digits.ensures c.in-None.ensures (omega arith)
