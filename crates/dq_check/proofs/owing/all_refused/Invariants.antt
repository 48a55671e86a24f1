use Rattle.std.proofs.Common.{◌≡◌, map, take}
use Rattle.dq_check.specs.Dues.{refused_due}
use Rattle.dq_check.proofs.owing.all_refused.Given as goal

abbrev pub invariant-loop-zone : goal.invariant-loop-zone
invariant-loop-zone l = l.dues.items ≡ map (refused_due l.schemas) (take l.zone-index l.zones)
