use Rattle.std.proofs.Common.{arith, ◌∙◌, [], subst}
use Rattle.std.specs.List.{flat_map}
use Rattle.dq_base.specs.Scripts.{source_in}
use Rattle.dq_top.specs.Loading.{publication_in}
use Rattle.dq_top.specs.Progress.{IsProgress}
use Rattle.dq_top.specs.declared.progress.Progress.{Progress}
use Rattle.dq_top.proofs.Behind.{nothing}
use Rattle.dq_top.proofs.Reached.{Reached-fault, Reached-more, progress_all}
use Rattle.dq_top.proofs.loading.load_lanes.Goals as goal

pub returns-in-Err-clause-told : goal.returns-in-Err-clause-told
returns-in-Err-clause-told g c =
    Reached-fault (λ steps. flat_map (publication_in c.args.schemas.now) steps) (λ steps. flat_map source_in steps) c.args.schemas.now (g.F.Folder.files c.args.folder.now) nothing c.args.lanes.now
    c.loop-steps.steps-index c.as_slice.result.now c.steps-item.result c.loop-steps.so_far c.in-Err.fault (g.F.Folder.files c.loop-steps.folder)
    c.loop-steps-test.true (c.as_slice.ensures ∙ c.steps-item.is) c.loop-steps.invariant.0 c.loop-steps.invariant.3 c.in-Err.ensures.told

pub loop-steps-preserved : goal.loop-steps-preserved
loop-steps-preserved g c = (
  c.load_lane.ensures.kept ∙ c.loop-steps.invariant.0,
  omega (arith, c.loop-steps.invariant.1, c.load_lane.ensures.later),
  c.in-Ok.ensures.within,
  Reached-more (λ steps. flat_map (publication_in c.args.schemas.now) steps) (λ steps. flat_map source_in steps) c.args.schemas.now (g.F.Folder.files c.args.folder.now) nothing c.args.lanes.now
      c.loop-steps.steps-index c.as_slice.result.now c.steps-item.result c.loop-steps.so_far c.in-Ok.next (g.F.Folder.files c.loop-steps.folder)
      c.loop-steps-test.true (c.as_slice.ensures ∙ c.steps-item.is) c.loop-steps.invariant.0 c.loop-steps.invariant.3 c.in-Ok.ensures.told c.in-Ok.ensures.progress,
  λ start from. c.in-Ok.ensures.taken start (c.loop-steps.invariant.4 start from),
  omega (arith, c.loop-steps.invariant.5, c.load_lane.ensures.grown),
)

pub returns-clause-progress : goal.returns-clause-progress
returns-clause-progress g c =
    let P : Progress → Type 0 = λ p. IsProgress c.args.schemas.now [] p in
    progress_all (λ steps. flat_map (publication_in c.args.schemas.now) steps) (λ steps. flat_map source_in steps) c.args.schemas.now (g.F.Folder.files c.args.folder.now) nothing c.args.lanes.now
    c.loop-steps.steps-index c.loop-steps.so_far c.loop-steps-test.false c.loop-steps.invariant.3
    (subst P c.begun-so_far.ensures.begun (c.begun-so_far.ensures.progress c.args.schemas.now))

pub returns-in-Err-clause-taken : goal.returns-in-Err-clause-taken
returns-in-Err-clause-taken g c = λ start from. c.in-Err.ensures.taken start (c.loop-steps.invariant.4 start from)
