use Rattle.std.proofs.Common.{◌∙◌}
use Rattle.dq_extract.proofs.Numbers.{whole_is}
use Rattle.dq_extract.proofs.cells.parse_text.Goals as goal

pub returns : goal.returns
returns c = c.ok.ensures.value ∙ whole_is c.args.text.now c.parse.result c.parse.ensures.value.0 c.requires.some c.requires.unsigned
