use Rattle.std.proofs.Common.{◌≡◌, subst, sym, rules}
use Rattle.std.proofs.lemmas.Iterator.{YieldsList-from_slice}
use Rattle.std.proofs.lemmas.Iterator.Adapters.{serves_from_places}
use Rattle.dq_base.specs.Canonical.{canonical_test}
use Rattle.dq_base.specs.declared.predicate.Predicate.{Predicate}
use Rattle.dq_fold.proofs.Settled.{all_settled}
use Rattle.dq_fold.proofs.keeps.is_kept.Goals as goal

-- the predicate at each place is of a canonical query
pub all-requires-clause-callable : goal.all-requires-clause-callable
all-requires-clause-callable c =
    serves_from_places (YieldsList-from_slice c.args.q.now.filters (cc)) (λ p g called. search rules) (λ p k low at.
    let settled : canonical_test p.now.test ≡ p.now.test = subst (λ (r : Predicate). canonical_test r.test ≡ r.test) (sym at) (all_settled c.args.q.now c.requires k p.now low) in
    search rules)
