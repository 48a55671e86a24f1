use Rattle.std.proofs.Common.{◌≡◌, ◌∷◌, ◌++◌, take, drop, get_or}
use Rattle.dq_cache.proofs.shelf.bring_front.Given as goal

abbrev pub invariant-loop-i : goal.invariant-loop-i
invariant-loop-i l = (l.list ≡ take l.i (l.item ∷ l.initial.list) ++ drop l.i l.initial.list) × (l.carried ≡ get_or (l.item ∷ l.initial.list) l.i 0)
