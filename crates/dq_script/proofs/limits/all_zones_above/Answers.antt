use Rattle.std.proofs.Common.{◌≡◌, ◌≤◌, ap, ◌∙◌, arith}
use Rattle.dq_base.specs.Scripts.{zones_count}
use Rattle.dq_script.proofs.Reasoned.{zones-bounded}
use Rattle.dq_script.specs.Reasons.{above}
use Rattle.dq_script.proofs.limits.all_zones_above.Goals as goal

pub returns : goal.returns
returns c =
    let few : zones_count c.args.lanes.now ≤ 16777216 = zones-bounded c.args.lanes.now c.requires.lanes c.requires.steps c.requires.zones in
    let same : c.count_zones.result ≡ zones_count c.args.lanes.now = omega (arith, c.count_zones.ensures) in
    c.above.ensures ∙ ap (above 65536) same
