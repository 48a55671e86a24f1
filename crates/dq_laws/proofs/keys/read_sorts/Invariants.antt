use Rattle.std.proofs.Common.{◌≡◌, true, take}
use Rattle.std.specs.List.{list_all}
use Rattle.dq_fuse.specs.Valid.{is_narrow}
use Rattle.dq_laws.proofs.keys.read_sorts.Given as goal

abbrev pub invariant-loop-schema : goal.invariant-loop-schema
invariant-loop-schema l = list_all is_narrow (take l.schema-index l.schemas) ≡ true
