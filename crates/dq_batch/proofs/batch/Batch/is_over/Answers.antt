use Rattle.dq_batch.proofs.Closes.{free_over}
use Rattle.dq_batch.proofs.batch.Batch.is_over.Goals as goal

pub returns-clause-free : goal.returns-clause-free
returns-clause-free g c = rw (← c.self.view_is) (free_over c.self.inside.loaded.value c.self.inside.seen.value.entries c.self.inside.open c.self.invariant.held)
