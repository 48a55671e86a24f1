use Rattle.std.proofs.Common.{◌≡◌, ◌++◌, map, drop}
use Rattle.std.specs.Arc.{arc_value}
use Rattle.dq_desk.specs.Plans.{joins_by, stamp_of}
use Rattle.dq_desk.proofs.planning.plan_joins.Given as goal

abbrev pub invariant-loop-place : goal.invariant-loop-place
invariant-loop-place l = record {
  left : joins_by (stamp_of l.stamps) l.plan l.queries ≡ l.joins.items ++ joins_by (stamp_of l.stamps) (drop l.place l.plan) (map arc_value (drop l.place l.q-items));
  items : map arc_value l.q-items ≡ l.queries;
}
