use Rattle.dq_journal.proofs.More.{AreEntries-push}
use Rattle.dq_journal.proofs.journal.Journal.push.Goals as goal

pub invariant_of-self : goal.invariant_of-self
invariant_of-self c = rw c.push_reserved.ensures.items (AreEntries-push _ _ c.self.invariant c.requires.sound)
