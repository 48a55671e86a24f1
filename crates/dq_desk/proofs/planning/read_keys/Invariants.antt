use Rattle.std.proofs.Common.{◌≡◌, map, take}
use Rattle.std.specs.Arc.{arc_value}
use Rattle.std.specs.List.{AllByRecursion}
use Rattle.dq_text.specs.Sizes.{IsSizedQuery}
use Rattle.dq_desk.proofs.planning.read_keys.Given as goal

abbrev pub invariant-loop-key : goal.invariant-loop-key
invariant-loop-key l = record {
  sized : AllByRecursion IsSizedQuery (map arc_value (take l.key-index l.key-items));
  items : map arc_value l.key-items ≡ l.keys;
}
