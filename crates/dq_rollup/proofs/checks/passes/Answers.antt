use Rattle.dq_rollup.proofs.Grouping.{fails_here, holds_here}
use Rattle.dq_rollup.proofs.checks.passes.Goals as goal

pub returns-then-not-branch : goal.returns-then-not-branch
returns-then-not-branch c =
    fails_here c.args.filters.now c.args.places.now c.args.row.now c.loop-i.i c.index-filters-i.result c.spot_at.result c.in_ok-passes_one.field-0
    c.loop-i-test.true c.index-filters-i.is c.spot_at.ensures c.in_ok-passes_one.ensures c.if-not-branch.true c.loop-i.invariant

pub loop-i-preserved : goal.loop-i-preserved
loop-i-preserved c =
    holds_here c.args.filters.now c.args.places.now c.args.row.now c.loop-i.i c.index-filters-i.result c.spot_at.result c.in_ok-passes_one.field-0
    c.loop-i-test.true c.index-filters-i.is c.spot_at.ensures c.in_ok-passes_one.ensures c.if-not-branch.false c.loop-i.invariant
