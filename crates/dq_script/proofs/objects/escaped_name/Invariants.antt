use Rattle.std.proofs.Common.{◌≡◌, take}
use Rattle.std.specs.List.{flat_map}
use Rattle.dq_script.specs.Objects.{escaped}
use Rattle.dq_script.proofs.objects.escaped_name.Given as goal

abbrev pub invariant-loop-byte : goal.invariant-loop-byte
invariant-loop-byte l = l.step ≡ flat_map escaped (take l.byte-index l.name)
