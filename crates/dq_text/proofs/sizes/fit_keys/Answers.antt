use Rattle.dq_text.specs.Sizes.{IsSizedKey}
use Rattle.dq_base.proofs.Reached.{reached_more, reached_all}
use Rattle.dq_text.proofs.sizes.fit_keys.Goals as goal

pub loop-key-preserved : goal.loop-key-preserved
loop-key-preserved c = reached_more IsSizedKey c.args.keys.now c.loop-key.key-index _ c.loop-key-test.true c.loop-key.invariant c.fit_key.ensures

pub returns : goal.returns
returns c = reached_all IsSizedKey c.args.keys.now c.loop-key.key-index c.loop-key-test.false c.loop-key.invariant
