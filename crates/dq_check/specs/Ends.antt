-- Where walking over a journal ends.
use Rattle.std.specs.Prelude.{◌≡◌, List, Some}
use Rattle.dq_extract.specs.Loads.{LoadedFiles}
use Rattle.dq_journal.specs.declared.entry.Entry.{Entry}
use Rattle.dq_machine.specs.State.{start}
use Rattle.dq_check.specs.Verdicts.{first_illegal}
use Rattle.dq_check.specs.Walks.{IsLegalWalk}
use Rattle.dq_check.specs.declared.walking.Walked.{Walked}
use Rattle.dq_check.specs.declared.walking.Walked.TheVariants as walked

-- behind a legal journal, or at its first illegal entry
abbrev pub IsWalked : LoadedFiles → List Entry → Walked → Type 0
IsWalked l journal (walked.Legal h) = IsLegalWalk l journal h
IsWalked l journal (walked.Illegal place) = first_illegal l (start l) 1 journal ≡ Some place
