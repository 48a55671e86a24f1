use Rattle.std.proofs.Common.{◌≡◌, map, take}
use Rattle.dq_script.specs.Batches.{key_of}
use Rattle.dq_script.proofs.batch.keys_of.Given as goal

abbrev pub invariant-loop-grouping : goal.invariant-loop-grouping
invariant-loop-grouping l = l.keys ≡ map key_of (take l.grouping-index l.by)
