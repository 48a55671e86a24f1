use Rattle.std.proofs.Common.{◌≡◌, ◌+◌, take}
use Rattle.dq_desk.specs.Plans.{AllStart}
use Rattle.dq_desk.proofs.starting.start_groups.Given as goal

abbrev pub invariant-loop-group : goal.invariant-loop-group
invariant-loop-group l = record {
  started : AllStart l.stamps l.stands l.first (take l.group-index l.groups) l.started;
  number : l.number ≡ l.first + l.group-index;
}
