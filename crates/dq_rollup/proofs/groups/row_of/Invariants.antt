use Rattle.std.proofs.Common.{◌≡◌, ◌++◌, map, take}
use Rattle.dq_base.specs.Answers.{cell_of}
use Rattle.dq_rollup.specs.Derived.{cell_over, rows_at}
use Rattle.dq_rollup.proofs.groups.row_of.Given as goal

abbrev pub invariant-loop-v : goal.invariant-loop-v
invariant-loop-v l = (l.row ≡ map cell_of (take l.v-index l.keys)) × (l.keys ≡ l.key)

abbrev pub invariant-loop-source : goal.invariant-loop-source
invariant-loop-source l = l.row ≡ map cell_of l.fn.key ++ map (cell_over (rows_at l.held l.places)) (take l.source-index l.sources)
