use Rattle.std.proofs.Common.{◌≡◌, ◌+◌, ◌*◌, ◌≤◌, drop, length}
use Rattle.std.specs.List.{fold}
use Rattle.dq_link.specs.Mirrors.{holding, lists_in}
use Rattle.dq_machine.proofs.mirror.Readying.hold_each.Given as goal

abbrev pub invariant-loop-predicate : goal.invariant-loop-predicate
invariant-loop-predicate l = record {
  moves : fold (holding (lists_in l.filters)) l.initial.self (lists_in l.filters) ≡ fold (holding (lists_in l.filters)) l.self (lists_in (drop l.predicate-index l.filters));
  count : l.self.count ≤ l.initial.self.count + 2 * l.predicate-index;
  next : l.self.mirror.next + l.initial.self.count ≤ l.initial.self.mirror.next + l.self.count;
}
