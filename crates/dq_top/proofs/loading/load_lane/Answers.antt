use Rattle.std.proofs.Common.{arith, ◌∙◌}
use Rattle.dq_base.specs.Scripts.{source_in}
use Rattle.dq_top.specs.Loading.{publication_in}
use Rattle.dq_top.proofs.Reached.{Reached-fault, Reached-more}
use Rattle.dq_top.proofs.loading.load_lane.Goals as goal

pub returns-in-Err-clause-told : goal.returns-in-Err-clause-told
returns-in-Err-clause-told g c =
    Reached-fault (publication_in c.args.schemas.now) source_in c.args.schemas.now (g.F.Folder.files c.args.folder.now) c.args.progress c.args.steps.now
    c.loop-step.step-index c.step-item.result c.step-item.result c.loop-step.so_far c.in-Err.fault (g.F.Folder.files c.loop-step.folder)
    c.loop-step-test.true c.step-item.is c.loop-step.invariant.0 c.loop-step.invariant.3 c.in-Err.ensures.told

pub loop-step-preserved : goal.loop-step-preserved
loop-step-preserved g c = (
  c.load_step.ensures.kept ∙ c.loop-step.invariant.0,
  omega (arith, c.loop-step.invariant.1, c.load_step.ensures.later),
  c.in-Ok.ensures.within,
  Reached-more (publication_in c.args.schemas.now) source_in c.args.schemas.now (g.F.Folder.files c.args.folder.now) c.args.progress c.args.steps.now
      c.loop-step.step-index c.step-item.result c.step-item.result c.loop-step.so_far c.in-Ok.next (g.F.Folder.files c.loop-step.folder)
      c.loop-step-test.true c.step-item.is c.loop-step.invariant.0 c.loop-step.invariant.3 c.in-Ok.ensures.told c.in-Ok.ensures.progress,
  λ start from. c.in-Ok.ensures.taken start (c.loop-step.invariant.4 start from),
  omega (arith, c.loop-step.invariant.5, c.load_step.ensures.grown),
)

pub returns-in-Err-clause-taken : goal.returns-in-Err-clause-taken
returns-in-Err-clause-taken g c = λ start from. c.in-Err.ensures.taken start (c.loop-step.invariant.4 start from)
