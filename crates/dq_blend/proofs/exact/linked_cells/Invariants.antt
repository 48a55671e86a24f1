use Rattle.std.proofs.Common.{◌≡◌, map, take}
use Rattle.dq_base.specs.Answers.{cell_at}
use Rattle.dq_blend.proofs.exact.linked_cells.Given as goal

abbrev pub invariant-loop-link : goal.invariant-loop-link
invariant-loop-link l = (l.key ≡ map (cell_at l.row) (take l.link-index l.links)) × (l.link-items ≡ l.links)
