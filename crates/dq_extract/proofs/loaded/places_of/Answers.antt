use Rattle.std.proofs.Common.{arith, ℕ, ◌+◌, ◌∙◌, length, ap}
use Rattle.dq_base.specs.Scripts.{source_in}
use Rattle.dq_base.specs.declared.script.Step.{Step}
use Rattle.dq_extract.proofs.Behind.{map_behind-more}
use Rattle.dq_extract.proofs.Counts.{length-flat_map-more, length-flat_map-take}
use Rattle.dq_extract.proofs.loaded.places_of.Goals as goal

pub overflow_add-count : goal.overflow_add-count
overflow_add-count c =
    let i = c.loop-step.step-index in
    let more = length-flat_map-more source_in c.args.steps.now i c.step-item.result c.loop-step-test.true in
    let item = c.sources_in.ensures ∙ ap (λ step. length (source_in step)) c.step-item.is in
    omega (arith, more, item, length-flat_map-take source_in c.args.steps.now (i + 1))

pub loop-step-preserved : goal.loop-step-preserved
loop-step-preserved c =
    let i = c.loop-step.step-index in
    let more = length-flat_map-more source_in c.args.steps.now i c.step-item.result c.loop-step-test.true in
    record {
      places = cc (c.in_ok-push.ensures.ok, map_behind-more source_in (λ (place : ℕ) (step : Step). place) c.args.count.now c.args.steps.now i c.step-item.result c.loop-step-test.true);
      count = omega (arith, more, c.sources_in.ensures ∙ ap (λ step. length (source_in step)) c.step-item.is);
    }
