use Rattle.dq_cache.proofs.Looked.{equal_by}
use Rattle.dq_machine.proofs.shelf.is_equal.Goals as goal

pub returns : goal.returns
returns c = equal_by c.same.result c.args.p.now c.args.q.now c.same.ensures.0 c.same.ensures.1
