use Rattle.std.proofs.Common.{◌≡◌, ◌++◌, drop}
use Rattle.dq_machine.specs.Owning.{valid_places}
use Rattle.dq_check.proofs.origins.valid_places.Given as goal

abbrev pub invariant-loop-place : goal.invariant-loop-place
invariant-loop-place l = valid_places l.schemas 0 l.zones ≡ l.places.items ++ valid_places l.schemas l.place (drop l.place l.zones)
