use Rattle.std.proofs.Common.{◌≡◌, ◌∷◌, ◌++◌, take, drop, get_or}
use Rattle.dq_machine.proofs.shelf.bring_front.Given as goal

abbrev pub invariant-loop-i : goal.invariant-loop-i
invariant-loop-i l = (l.shelf ≡ take l.i (l.fn.entry ∷ l.initial.shelf) ++ drop l.i l.initial.shelf) × (l.carried ≡ get_or (l.fn.entry ∷ l.initial.shelf) l.i l.fn.entry)
