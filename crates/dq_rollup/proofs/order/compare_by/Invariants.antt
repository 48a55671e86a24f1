use Rattle.std.proofs.Common.{◌≡◌, drop}
use Rattle.dq_base.specs.Answers.{by_order}
use Rattle.dq_rollup.proofs.order.compare_by.Given as goal

abbrev pub invariant-loop-key : goal.invariant-loop-key
invariant-loop-key l = by_order (drop l.key-index l.order) l.a l.b ≡ by_order l.order l.a l.b
