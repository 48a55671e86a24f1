use Rattle.std.proofs.Common.{◌≡◌, length, take}
use Rattle.dq_base.specs.Scripts.{sources_of}
use Rattle.dq_extract.specs.Loads.{places_in}
use Rattle.dq_extract.proofs.loaded.index_of.Given as goal

abbrev pub invariant-loop-steps : goal.invariant-loop-steps
invariant-loop-steps l = record {
  index : l.index ≡ places_in (take l.steps-index l.lanes);
  count : l.count ≡ length (sources_of (take l.steps-index l.lanes));
}
