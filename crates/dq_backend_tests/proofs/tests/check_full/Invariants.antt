use Rattle.std.specs.Arc.{arc_value}
use Rattle.dq_link.specs.Mounts.{StandsFor}
use Rattle.dq_backend_tests.proofs.tests.check_full.Given as goal

abbrev pub invariant-loop-table : goal.invariant-loop-table
invariant-loop-table g l = StandsFor (g.L.Link.mounts l.pooled.link) 0 (record { stamp = 1; version = arc_value l.extract })
