use Rattle.std.proofs.Common.{◌≡◌, map, take}
use Rattle.std.specs.Arc.{arc_value}
use Rattle.dq_desk.specs.Plans.{AllStand}
use Rattle.dq_desk.proofs.planning.stand_all.Given as goal

abbrev pub invariant-loop-q : goal.invariant-loop-q
invariant-loop-q l = record {
  stood : AllStand l.stamps l.stands (map arc_value (take l.q-index l.q-items)) l.stood;
  items : map arc_value l.q-items ≡ l.queries;
}
