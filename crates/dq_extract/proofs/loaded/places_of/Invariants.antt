use Rattle.std.proofs.Common.{◌≡◌, ◌+◌, length, take}
use Rattle.std.specs.List.{flat_map}
use Rattle.dq_base.specs.Scripts.{source_in}
use Rattle.dq_extract.specs.Loads.{places_from}
use Rattle.dq_extract.proofs.loaded.places_of.Given as goal

abbrev pub invariant-loop-step : goal.invariant-loop-step
invariant-loop-step l = record {
  places : l.places ≡ places_from l.initial.count (take l.step-index l.steps);
  count : l.count ≡ l.initial.count + length (flat_map source_in (take l.step-index l.steps));
}
