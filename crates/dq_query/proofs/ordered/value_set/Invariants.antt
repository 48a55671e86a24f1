use Rattle.std.proofs.Common.{◌≡◌, take}
use Rattle.std.specs.BTreeSet.{keys}
use Rattle.dq_base.specs.Orders.{value_cmp}
use Rattle.dq_base.specs.Sets.{set_of}
use Rattle.dq_query.proofs.ordered.value_set.Given as goal

abbrev pub invariant-loop-v : goal.invariant-loop-v
invariant-loop-v l = (keys l.set ≡ set_of value_cmp (take l.v-index l.v-items)) × (l.v-items ≡ l.list)
