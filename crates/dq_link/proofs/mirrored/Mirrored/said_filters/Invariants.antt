use Rattle.std.proofs.Common.{◌≡◌, take}
use Rattle.std.specs.Prelude.{map}
use Rattle.dq_text.specs.Said.{said_predicate}
use Rattle.dq_link.proofs.mirrored.Mirrored.said_filters.Given as goal

abbrev pub invariant-loop-predicate : goal.invariant-loop-predicate
invariant-loop-predicate g l = l.said ≡ map (said_predicate l.self.mirror.tables) (take l.predicate-index l.filters)
