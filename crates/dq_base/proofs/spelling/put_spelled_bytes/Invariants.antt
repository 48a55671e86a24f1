use Rattle.std.proofs.Common.{◌≡◌, ◌++◌, take}
use Rattle.std.specs.List.{flat_map}
use Rattle.dq_base.specs.Spelling as form
use Rattle.dq_base.proofs.spelling.put_spelled_bytes.Given as goal

abbrev pub invariant-loop-byte : goal.invariant-loop-byte
invariant-loop-byte l = l.text ≡ l.initial.text ++ flat_map form.spelled_byte (take l.byte-index l.bytes)
