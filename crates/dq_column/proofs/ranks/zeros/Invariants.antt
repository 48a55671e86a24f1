use Rattle.std.proofs.Common.{◌≡◌, map, take}
use Rattle.dq_column.proofs.ranks.zeros.Given as goal

abbrev pub invariant-loop-text : goal.invariant-loop-text
invariant-loop-text l = l.zeros ≡ map (λ _. 0) (take l._text-index l.texts)
