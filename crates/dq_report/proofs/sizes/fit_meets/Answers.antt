use Rattle.dq_report.specs.Told.{FitsMet}
use Rattle.dq_base.proofs.Reached.{reached_more, reached_all}
use Rattle.dq_report.proofs.sizes.fit_meets.Goals as goal

pub loop-met-preserved : goal.loop-met-preserved
loop-met-preserved c = reached_more FitsMet c.args.meets.now c.loop-met.met-index _ c.loop-met-test.true c.loop-met.invariant c.fit_met.ensures

pub returns : goal.returns
returns c = reached_all FitsMet c.args.meets.now c.loop-met.met-index c.loop-met-test.false c.loop-met.invariant
