use Rattle.std.proofs.Common.{◌≡◌, [], fold, map, take}
use Rattle.std.specs.Arc.{arc_value}
use Rattle.dq_machine.specs.Admitting.{Looked, then_look}
use Rattle.dq_machine.proofs.looking.look_all.Given as goal

abbrev pub invariant-loop-q : goal.invariant-loop-q
invariant-loop-q l = record {
  looks : ◌≡◌ {A = Looked} (record { shelves = l.shelves; found = l.found }) (fold (then_look l.flown l.versions) (record { shelves = l.initial.shelves; found = [] }) (map arc_value (take l.q-index l.q-items)));
  items : map arc_value l.q-items ≡ l.queries;
}
