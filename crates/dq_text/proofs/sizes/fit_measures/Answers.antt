use Rattle.dq_text.specs.Sizes.{IsSizedMeasure}
use Rattle.dq_base.proofs.Reached.{reached_more, reached_all}
use Rattle.dq_text.proofs.sizes.fit_measures.Goals as goal

pub loop-measure-preserved : goal.loop-measure-preserved
loop-measure-preserved c = reached_more IsSizedMeasure c.args.measures.now c.loop-measure.measure-index _ c.loop-measure-test.true c.loop-measure.invariant c.fit_measure.ensures

pub returns : goal.returns
returns c = reached_all IsSizedMeasure c.args.measures.now c.loop-measure.measure-index c.loop-measure-test.false c.loop-measure.invariant
