use Rattle.std.proofs.Common.{subst}
use Rattle.dq_base.specs.declared.predicate.Predicate.{Predicate}
use Rattle.dq_rollup.specs.Keys.{IsPlaced}
use Rattle.dq_rollup.proofs.Lists.{paired_more}
use Rattle.dq_rollup.proofs.checks.places_of.Goals as goal

pub loop-f-preserved : goal.loop-f-preserved
loop-f-preserved c =
    let P : Predicate → Type 0 = λ f. IsPlaced c.args.dims.now f c.plain_place.result in
    paired_more (IsPlaced c.args.dims.now) c.args.filters.now c.loop-f.f-index c.f-item.result c.loop-f.places c.push.new.self c.plain_place.result
    c.loop-f-test.true c.loop-f.invariant c.in_ok-push.ensures.ok (subst P c.f-item.is c.plain_place.ensures)
