use Rattle.std.proofs.Common.{◌≡◌, map, take}
use Rattle.std.specs.Arc.{arc_value}
use Rattle.dq_base.specs.declared.query.Query.{Query}
use Rattle.dq_desk.specs.Plans.{planned, stamp_of}
use Rattle.dq_text.specs.Statements.{body}
use Rattle.dq_desk.proofs.planning.plan.Given as goal

abbrev pub invariant-loop-place : goal.invariant-loop-place
invariant-loop-place l = record {
  plan : l.plan ≡ map (λ (q : Query). planned l.clever.entries l.literal.entries l.flights.flights (stamp_of l.stamps q.source) q (body q)) (map arc_value (take l.place l.q-items));
  items : map arc_value l.q-items ≡ l.queries;
}
