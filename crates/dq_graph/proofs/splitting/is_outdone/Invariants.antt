use Rattle.std.proofs.Common.{◌≡◌, drop, map}
use Rattle.std.specs.Arc.{arc_value}
use Rattle.std.specs.List.{enumerate_from, list_any}
use Rattle.dq_base.specs.Batches.{outdone_by}
use Rattle.dq_graph.proofs.splitting.is_outdone.Given as goal

abbrev pub invariant-loop-other : goal.invariant-loop-other
invariant-loop-other l = list_any (outdone_by (l.place, l.q)) (drop l.other (enumerate_from 0 (map arc_value l.batch))) ≡ list_any (outdone_by (l.place, l.q)) (enumerate_from 0 (map arc_value l.batch))
