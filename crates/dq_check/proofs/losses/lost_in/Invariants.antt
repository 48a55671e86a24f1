use Rattle.std.proofs.Common.{◌≡◌, ◌++◌, drop}
use Rattle.std.specs.List.{flat_map}
use Rattle.dq_check.specs.Losses as specified
use Rattle.dq_check.proofs.losses.lost_in.Given as goal

abbrev pub invariant-loop-entry : goal.invariant-loop-entry
invariant-loop-entry l = flat_map specified.lost_in l.journal ≡ l.flights.items ++ flat_map specified.lost_in (drop l.entry-index l.journal)
