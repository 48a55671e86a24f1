use Rattle.std.proofs.Common.{◌≡◌, ◌++◌, drop}
use Rattle.dq_machine.specs.Owning.{over_zones}
use Rattle.dq_check.proofs.origins.over_zones.Given as goal

abbrev pub invariant-loop-zone : goal.invariant-loop-zone
invariant-loop-zone l = over_zones l.schemas l.zones l.valid ≡ l.origins.items ++ over_zones l.schemas (drop l.zone-index l.zones) l.left
