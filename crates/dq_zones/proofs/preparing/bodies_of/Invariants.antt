use Rattle.std.proofs.Common.{◌≡◌, map, take}
use Rattle.std.specs.Arc.{arc_value}
use Rattle.dq_text.specs.Statements.{body}
use Rattle.dq_zones.proofs.preparing.bodies_of.Given as goal

abbrev pub invariant-loop-key : goal.invariant-loop-key
invariant-loop-key l = record {
  texts : l.texts ≡ map (λ a. body (arc_value a)) (take l.key-index l.key-items);
  items : map arc_value l.key-items ≡ l.keys;
}
