use Rattle.dq_batch.proofs.Loops.{wait_none}
use Rattle.dq_batch.proofs.settling.none_waits.Goals as goal

pub returns : goal.returns
returns c = wait_none c.args.fetches.now c.first_wait.result c.is_none.result c.first_wait.ensures c.is_none.ensures
