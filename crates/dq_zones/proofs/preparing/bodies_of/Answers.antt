use Rattle.std.proofs.Common.{◌≤◌, length, arith}
use Rattle.std.specs.Arc.{arc_value}
use Rattle.dq_text.specs.Statements.{body}
use Rattle.dq_zones.proofs.Numbered.{mapped_end}
use Rattle.dq_zones.proofs.preparing.bodies_of.Goals as goal

pub returns : goal.returns
returns c =
    let items = c.as_slice-key-items.result.now in
    let le : length items ≤ c.loop-key.key-index = omega arith in
    mapped_end arc_value body items c.loop-key.key-index c.args.keys.now c.loop-key.texts le c.loop-key.invariant.items c.loop-key.invariant.texts
