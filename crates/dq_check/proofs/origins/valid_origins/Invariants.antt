use Rattle.std.proofs.Common.{◌≡◌, ◌++◌, drop, map}
use Rattle.std.specs.List.{enumerate_from}
use Rattle.dq_machine.specs.Owning.{origin_of, valid_origins}
use Rattle.dq_check.proofs.origins.valid_origins.Given as goal

abbrev pub invariant-loop-place : goal.invariant-loop-place
invariant-loop-place l =
    valid_origins l.roles l.owns l.places
    ≡ l.origins.items ++ map (λ p. origin_of l.flights.items l.places p.0 p.1) (enumerate_from l.place (drop l.place l.roles))
