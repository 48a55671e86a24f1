use Rattle.std.proofs.Common.{ap, is_some, ◌∙◌}
use Rattle.dq_cache.specs.Entries.{has_body}
use Rattle.dq_cache.specs.Stacks.{number_in}
use Rattle.dq_cache.proofs.Numbers.{is_some-number_in}
use Rattle.dq_cache.proofs.literal.Literal.has.Goals as goal

pub returns : goal.returns
returns c =
    let test = has_body c.args.stamp c.args.body.now in
    rw (← c.self.view_is) (c.is_some.ensures ∙ ap is_some (c.number_of.ensures ∙ ap (λ b. number_in (has_body c.args.stamp b) c.self.inside.cache.entries) c.bytes.ensures) ∙ is_some-number_in test c.self.inside.cache.entries)
