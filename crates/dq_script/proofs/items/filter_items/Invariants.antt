use Rattle.std.proofs.Common.{drop}
use Rattle.dq_base.specs.Sessions.{filter_items}
use Rattle.dq_script.proofs.Tallied.{ToldSo}
use Rattle.dq_script.proofs.items.filter_items.Given as goal

abbrev pub invariant-loop-filter : goal.invariant-loop-filter
invariant-loop-filter l = ToldSo (filter_items l.filters) (filter_items (drop l.filter-index l.filters)) l.count
