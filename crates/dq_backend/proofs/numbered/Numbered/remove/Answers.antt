use Rattle.std.proofs.Common.{not, nat_eq, ap, ◌∙◌, rules}
use Rattle.std.proofs.lemmas.Fn.{filter_same}
use Rattle.dq_link.specs.Pairs.{without}
use Rattle.dq_backend.proofs.numbered.Numbered.remove.Goals as goal

pub returns : goal.returns
returns g c =
    filter_same _ (λ p. not (nat_eq p.0 c.args.number)) _ (λ x b f k. search rules) _ _ c.retain.ensures.filtered
    ∙ ap (λ ps. without ps c.args.number) c.self.view_is
