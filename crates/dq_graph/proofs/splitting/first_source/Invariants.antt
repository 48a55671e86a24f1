use Rattle.std.proofs.Common.{◌≡◌, ◌&&◌, not, drop, find, map}
use Rattle.std.specs.Arc.{arc_value}
use Rattle.std.specs.List.{enumerate_from}
use Rattle.dq_base.specs.Batches.{is_local}
use Rattle.dq_base.specs.Covering.{covers}
use Rattle.dq_graph.proofs.splitting.first_source.Given as goal

abbrev pub invariant-loop-place : goal.invariant-loop-place
invariant-loop-place l =
    find (λ p. not (is_local (enumerate_from 0 (map arc_value l.batch)) p) && covers p.1 l.q) (drop l.place (enumerate_from 0 (map arc_value l.batch)))
    ≡ find (λ p. not (is_local (enumerate_from 0 (map arc_value l.batch)) p) && covers p.1 l.q) (enumerate_from 0 (map arc_value l.batch))
