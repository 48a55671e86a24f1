use Rattle.std.proofs.Common.{◌≡◌, map, take}
use Rattle.dq_machine.specs.Refreshing.{no_stand}
use Rattle.dq_machine.proofs.stands.no_stands.Given as goal

abbrev pub invariant-loop-schema : goal.invariant-loop-schema
invariant-loop-schema l = (l.stands.items ≡ map no_stand (take l.schema-index l.schema-items)) × (l.schema-items ≡ l.schemas)
