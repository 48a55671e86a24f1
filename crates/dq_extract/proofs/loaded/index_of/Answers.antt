use Rattle.std.proofs.Common.{arith, List, ℕ, length, ap, ◌∙◌, ◌+◌}
use Rattle.std.specs.List.{flat_map}
use Rattle.dq_base.specs.Scripts.{source_in}
use Rattle.dq_base.specs.declared.script.Step.{Step}
use Rattle.dq_extract.proofs.Behind.{places_in-more}
use Rattle.dq_extract.proofs.Counts.{length-flat_map-more, length-flat_map-take}
use Rattle.dq_extract.proofs.loaded.index_of.Goals as goal

pub places_of-requires : goal.places_of-requires
places_of-requires c =
    let all : List Step → List ℕ = λ steps. flat_map source_in steps in
    let i = c.loop-steps.steps-index in
    let more = length-flat_map-more all c.args.lanes.now i c.steps-item.result c.loop-steps-test.true in
    let item = ap (λ steps. length (flat_map source_in steps)) (c.as_slice.ensures ∙ c.steps-item.is) in
    omega (arith, more, item, length-flat_map-take all c.args.lanes.now (i + 1))

pub loop-steps-preserved : goal.loop-steps-preserved
loop-steps-preserved c =
    let all : List Step → List ℕ = λ steps. flat_map source_in steps in
    let i = c.loop-steps.steps-index in
    let more = length-flat_map-more all c.args.lanes.now i c.steps-item.result c.loop-steps-test.true in
    let steps = c.as_slice.ensures ∙ c.steps-item.is in
    record {
      index = places_in-more c.args.lanes.now i c.steps-item.result c.as_slice.result.now c.loop-steps.count c.in_ok-places.places c.loop-steps.index c.push.new.self
          c.loop-steps-test.true steps c.loop-steps.invariant.index c.loop-steps.invariant.count c.in_ok-places.ensures.places c.in_ok-push.ensures.ok;
      count = omega (arith, more, ap (λ steps. length (flat_map source_in steps)) steps, c.in_ok-places.ensures.count);
    }
