use Rattle.std.proofs.Common.{drop}
use Rattle.std.specs.Prelude.{sum_by}
use Rattle.dq_base.specs.Sessions.{value_items}
use Rattle.dq_script.proofs.Tallied.{ToldSo}
use Rattle.dq_script.proofs.items.values_items.Given as goal

abbrev pub invariant-loop-value : goal.invariant-loop-value
invariant-loop-value l = ToldSo (sum_by value_items l.values) (sum_by value_items (drop l.value-index l.values)) l.count
