use Rattle.std.proofs.Common.{◌≡◌, ◌≤◌, drop, length}
use Rattle.dq_desk.specs.Plans.{AllCanJoin, all_joined}
use Rattle.dq_desk.proofs.starting.join_all.Given as goal

abbrev pub invariant-loop-one : goal.invariant-loop-one
invariant-loop-one l = record {
  flights : all_joined l.initial.flights.flights l.joins ≡ all_joined l.flights.flights (drop l.one-index l.joins);
  may : AllCanJoin (length (drop l.one-index l.joins)) l.flights.flights (drop l.one-index l.joins);
  room : l.initial.flights.spare ≤ l.flights.spare;
}
