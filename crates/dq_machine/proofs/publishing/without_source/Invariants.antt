use Rattle.std.proofs.Common.{◌≡◌, take}
use Rattle.dq_machine.specs.Publishing.{without_source}
use Rattle.dq_machine.proofs.publishing.without_source.Given as goal

abbrev pub invariant-loop-entry : goal.invariant-loop-entry
invariant-loop-entry l = (l.kept ≡ without_source l.source (take l.entry-index l.entry-items)) × (l.entry-items ≡ l.shelf)
