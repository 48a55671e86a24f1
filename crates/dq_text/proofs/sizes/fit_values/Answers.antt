use Rattle.dq_text.specs.Sizes.{IsSizedValue}
use Rattle.dq_base.proofs.Reached.{reached_item, reached_all}
use Rattle.dq_text.proofs.sizes.fit_values.Goals as goal

pub loop-value-preserved : goal.loop-value-preserved
loop-value-preserved c = reached_item IsSizedValue c.args.values.now c.loop-value.value-index c.value-item.result c.loop-value-test.true c.loop-value.invariant c.value-item.is c.fit_value.ensures

pub returns : goal.returns
returns c = reached_all IsSizedValue c.args.values.now c.loop-value.value-index c.loop-value-test.false c.loop-value.invariant
