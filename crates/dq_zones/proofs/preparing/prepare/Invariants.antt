use Rattle.std.proofs.Common.{◌≡◌, ◌++◌, drop}
use Rattle.dq_machine.specs.Preparing.{canons_of}
use Rattle.dq_zones.specs.Numbering.{numbers_from, zone_numbers}
use Rattle.dq_zones.proofs.preparing.prepare.Given as goal

abbrev pub invariant-loop-q : goal.invariant-loop-q
invariant-loop-q l = record {
  place : l.place ≡ l.q-index;
  zones : zone_numbers l.schemas l.zones ≡ l.numbers ++ numbers_from l.schemas l.q-index (drop l.q-index l.zones);
  canons : canons_of l.schemas l.zones ≡ l.canons ++ canons_of l.schemas (drop l.q-index l.zones);
}
