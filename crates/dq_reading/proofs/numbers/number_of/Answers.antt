use Rattle.std.proofs.Common.{arith, rules}
use Rattle.dq_reading.proofs.Numerals.{no_digits, one_zero, needless_zero, no_text}
use Rattle.dq_reading.proofs.numbers.number_of.Goals as goal

pub returns-then-is_empty : goal.returns-then-is_empty
returns-then-is_empty c = λ n fits. no_digits n fits c.args.digits.now (search rules)

pub returns-then-digits-eq1 : goal.returns-then-digits-eq1
returns-then-digits-eq1 c = (omega arith, one_zero c.args.digits.now c.if-digits-eq48.true c.if-digits-eq1.true)

pub returns-else-digits-eq1 : goal.returns-else-digits-eq1
returns-else-digits-eq1 c = needless_zero c.args.digits.now c.if-digits-eq48.true c.if-digits-eq1.false

pub returns-in-Err : goal.returns-in-Err
returns-in-Err c = absurd (no_text c.args.digits.now c.requires c.in-Err.ensures.cases.0)
