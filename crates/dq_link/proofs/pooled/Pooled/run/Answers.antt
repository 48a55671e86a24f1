use Rattle.std.proofs.Common.{arith}
use Rattle.dq_link.proofs.pooled.Pooled.run.Goals as goal

pub returns-in_default-clause-counts : goal.returns-in_default-clause-counts
returns-in_default-clause-counts g c = rw (← c.self.view_is) (0, omega arith, omega arith, omega arith)
