use Rattle.std.proofs.Common.{◌≡◌, ◌++◌, map, take}
use Rattle.dq_base.specs.Answers.{cell_of}
use Rattle.dq_fold.specs.Tallies.{tally_cell}
use Rattle.dq_fold.proofs.groups.cells_of.Given as goal

abbrev pub invariant-loop-v : goal.invariant-loop-v
invariant-loop-v l = (l.row ≡ map cell_of (take l.v-index l.keys)) × (l.keys ≡ l.key) × (l.items ≡ l.tallies)

abbrev pub invariant-loop-tally : goal.invariant-loop-tally
invariant-loop-tally l = (l.row ≡ map cell_of l.fn.key ++ map tally_cell (take l.tally-index l.items)) × (l.items ≡ l.fn.tallies)
