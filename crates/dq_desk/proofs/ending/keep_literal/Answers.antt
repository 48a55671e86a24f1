use Rattle.dq_desk.proofs.Caches.{leaves-old}
use Rattle.dq_desk.proofs.ending.keep_literal.Goals as goal

pub returns-in_default-clause-list : goal.returns-in_default-clause-list
returns-in_default-clause-list c = leaves-old _ _ _ c.without_memory.ensures.other

pub returns-in_default-try_clone-clause-list : goal.returns-in_default-try_clone-clause-list
returns-in_default-try_clone-clause-list c = leaves-old _ _ _ c.without_memory-in_default-try_clone.ensures.other
