-- One more entry.
use Rattle.std.proofs.Common.{List, [], ◌∷◌, ◌++◌}
use Rattle.dq_journal.specs.Journals.{IsEntry, AreEntries}
use Rattle.dq_journal.specs.declared.entry.Entry.{Entry}

pub AreEntries-push : (es : List Entry) (e : Entry) → AreEntries es → IsEntry e → AreEntries (es ++ e ∷ [])
AreEntries-push [] e all one = (one, tt)
AreEntries-push (x ∷ es) e all one = (all.0, AreEntries-push es e all.1 one)
