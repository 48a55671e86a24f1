use Rattle.std.proofs.Common.{◌≡◌, ◌+◌, length, map}
use Rattle.std.specs.Prelude.{sum}
use Rattle.dq_cache.specs.Entries.{trimmed}
use Rattle.dq_machine.specs.State.{Shelved}
use Rattle.dq_machine.proofs.landing.trim.Given as goal

abbrev pub invariant-loop-dropped : goal.invariant-loop-dropped
invariant-loop-dropped l =
    (trimmed (λ (e : Shelved). e.weight) l.bound l.shelf ≡ trimmed (λ (e : Shelved). e.weight) l.bound l.initial.shelf)
    × (length l.shelf + l.dropped ≡ length l.initial.shelf)
    × (l.weight ≡ sum (map (λ (e : Shelved). e.weight) l.shelf))
