use Rattle.std.proofs.Common.{◌≡◌, map, take}
use Rattle.dq_check.specs.Walks.{stamps_of}
use Rattle.dq_check.proofs.walking.stamps_of.Given as goal

abbrev pub invariant-loop-zone : goal.invariant-loop-zone
invariant-loop-zone l = l.stamps ≡ stamps_of l.machine.state (take l.zone-index l.zones)
