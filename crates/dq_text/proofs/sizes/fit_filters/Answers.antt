use Rattle.dq_base.specs.declared.predicate.Predicate.{Predicate}
use Rattle.dq_text.specs.Sizes.{IsSizedPredicate}
use Rattle.dq_text.specs.Statements.{plain_predicate}
use Rattle.dq_base.proofs.Reached.{reached_item, reached_all}
use Rattle.dq_text.proofs.sizes.fit_filters.Goals as goal

pub loop-predicate-preserved : goal.loop-predicate-preserved
loop-predicate-preserved c = reached_item (λ (p : Predicate). IsSizedPredicate (plain_predicate p)) c.args.filters.now c.loop-predicate.predicate-index c.predicate-item.result c.loop-predicate-test.true c.loop-predicate.invariant c.predicate-item.is c.fit_predicate.ensures

pub returns : goal.returns
returns c = reached_all (λ (p : Predicate). IsSizedPredicate (plain_predicate p)) c.args.filters.now c.loop-predicate.predicate-index c.loop-predicate-test.false c.loop-predicate.invariant
