use Rattle.std.proofs.Common.{◌≡◌, Bool, true, ap, sym, subst, ◌∙◌}
use Rattle.dq_base.specs.Covering.{query_eq}
use Rattle.dq_base.specs.declared.query.Query.{Query}
use Rattle.dq_cover.proofs.CoverLaws.{exact_queries, query_same}
use Rattle.dq_cover.proofs.sameness.same.Goals as goal

tells : (p q : Query) (b : Bool) → b ≡ query_eq p q → (b ≡ true → p ≡ q) × (p ≡ q → b ≡ true)
tells p q b e = (λ t. exact_queries p q (sym e ∙ t), λ s. e ∙ ap (query_eq p) (sym s) ∙ query_same p)

pub returns : goal.returns
returns c = tells c.args.p.now c.args.q.now c.same_query.result (subst (λ (x : Query). c.same_query.result ≡ query_eq x c.args.q.now) c.query.ensures.same (subst (λ (x : Query). c.same_query.result ≡ query_eq c.query.result.now x) c.query-2.ensures.same c.same_query.ensures))
