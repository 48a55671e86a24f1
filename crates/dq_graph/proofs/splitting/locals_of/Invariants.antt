use Rattle.std.proofs.Common.{◌≡◌, take, map}
use Rattle.std.specs.Arc.{arc_value}
use Rattle.std.specs.List.{enumerate_from}
use Rattle.dq_base.specs.Batches.{is_local}
use Rattle.dq_graph.proofs.splitting.locals_of.Given as goal

abbrev pub invariant-loop-place : goal.invariant-loop-place
invariant-loop-place l = l.locals.items ≡ map (is_local (enumerate_from 0 (map arc_value l.batch))) (take l.place (enumerate_from 0 (map arc_value l.batch)))
