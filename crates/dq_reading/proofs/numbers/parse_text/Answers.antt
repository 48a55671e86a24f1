use Rattle.std.proofs.Common.{sym, subst}
use Rattle.dq_reading.specs.Reading.{Writes}
use Rattle.dq_reading.proofs.Numerals.{writes_is}
use Rattle.dq_reading.proofs.numbers.parse_text.Goals as goal

pub returns : goal.returns
returns c = subst (Writes c.args.text.now) (sym c.ok.ensures.value) (writes_is c.args.text.now c.parse.result c.parse.ensures.value.0 c.requires.digits c.requires.plain)
