use Rattle.std.proofs.Common.{◌≡◌, take, map}
use Rattle.std.specs.Arc.{arc_value}
use Rattle.std.specs.List.{enumerate_from}
use Rattle.dq_base.specs.Batches.{role_of}
use Rattle.dq_graph.proofs.splitting.split.Given as goal

abbrev pub invariant-loop-place : goal.invariant-loop-place
invariant-loop-place l = l.roles ≡ map (role_of (enumerate_from 0 (map arc_value l.batch))) (take l.place (enumerate_from 0 (map arc_value l.batch)))
