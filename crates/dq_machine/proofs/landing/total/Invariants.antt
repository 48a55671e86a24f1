use Rattle.std.proofs.Common.{◌≡◌, ◌≤◌, ◌*◌, ◌^◌, map, take}
use Rattle.std.specs.Prelude.{sum}
use Rattle.dq_machine.specs.State.{Shelved}
use Rattle.dq_machine.proofs.landing.total.Given as goal

abbrev pub invariant-loop-entry : goal.invariant-loop-entry
invariant-loop-entry l =
    (l.total ≡ sum (map (λ (e : Shelved). e.weight) (take l.entry-index l.shelf))) × (l.total ≤ l.entry-index * 2 ^ 64)
