use Rattle.dq_text.specs.Sizes.{IsSizedDim}
use Rattle.dq_base.proofs.Reached.{reached_item, reached_all}
use Rattle.dq_text.proofs.sizes.fit_dims.Goals as goal

pub loop-dim-preserved : goal.loop-dim-preserved
loop-dim-preserved c = reached_item IsSizedDim c.args.dims.now c.loop-dim.dim-index c.dim-item.result c.loop-dim-test.true c.loop-dim.invariant c.dim-item.is c.fit_dim.ensures

pub returns : goal.returns
returns c = reached_all IsSizedDim c.args.dims.now c.loop-dim.dim-index c.loop-dim-test.false c.loop-dim.invariant
