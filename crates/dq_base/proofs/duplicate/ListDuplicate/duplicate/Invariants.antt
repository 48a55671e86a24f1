use Rattle.std.proofs.Common.{◌≡◌, take}
use Rattle.dq_base.proofs.duplicate.ListDuplicate.duplicate.Given as goal

abbrev pub invariant-loop-item : goal.invariant-loop-item
invariant-loop-item g l = (l.copy ≡ take l.item-index l.item-items) × (l.item-items ≡ l.self)
