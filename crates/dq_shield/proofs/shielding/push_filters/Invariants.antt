use Rattle.std.proofs.Common.{◌≡◌, ◌++◌, take}
use Rattle.dq_shield.proofs.shielding.push_filters.Given as goal

abbrev pub invariant-loop-predicate : goal.invariant-loop-predicate
invariant-loop-predicate l = l.filters ≡ l.fn.filters ++ take l.predicate-index l.more
