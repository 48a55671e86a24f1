use Rattle.std.proofs.Common.{not, nat_eq, [], ◌∷◌, ◌++◌, ap, ◌∙◌, rules}
use Rattle.std.proofs.lemmas.Fn.{filter_same}
use Rattle.dq_link.specs.Pairs.{without}
use Rattle.dq_backend.proofs.numbered.Numbered.set.Goals as goal

pub returns-clause-ok : goal.returns-clause-ok
returns-clause-ok g c =
    c.push_reserved.ensures.items
    ∙ ap (λ ps. ps ++ (c.args.number, c.args.item) ∷ [])
    (filter_same _ (λ p. not (nat_eq p.0 c.args.number)) _ (λ x b f k. search rules) _ _ c.retain.ensures.filtered
    ∙ ap (λ ps. without ps c.args.number) (c.reserve.ensures.items ∙ c.self.view_is))
