use Rattle.std.proofs.Common.{◌≡◌, map, take}
use Rattle.dq_column.specs.Stored.{place_at}
use Rattle.dq_column.proofs.builder.ranked.Given as goal

abbrev pub invariant-loop-code : goal.invariant-loop-code
invariant-loop-code l = l.ranked ≡ map (place_at l.places) (take l.code-index l.code-items)
